-- What is computed of runs: all of it unfolds the same definitions, which are named once.
-- Assumes nothing.
use mathlib.Core.Path.{◌≡◌, refl}
use mathlib.Core.Bool.{Bool, true, ◌&&◌, and-eq-true_iff}
use mathlib.Core.List.{List, [], ◌∷◌}
use Prim.Native.Nat.{ℕ, zero, suc}
use native.Mathlib.Omega.{arith}
use borrow.Author.Tests.{ltb-true}
use lib.Dec.{ltb}
use Rattle.answer.specs.Numbers.{accepts, first_refusal}
use Rattle.number.specs.Number.{Bytes, number, bytes_of, number_at, capped_sum, floored_difference, with_number_at, highest}
use Rattle.part.specs.Part.{part_at}
use Rattle.key.specs.Key.{same_key, same_bytes}
use Rattle.action.specs.Action.{data_length, size_among, expired}
use Rattle.action.specs.Fields.{is_token, is_recurring, key_of, amounts_of}
use Rattle.change.specs.Changed.{changed, with_amounts}
use Rattle.region.specs.Region.{glue, glue_one, cut, first, header_data_length}
use Rattle.creation.specs.Creation.{form_of, all_keep, keeps, both_lists, sol_repeats, how_often, mint_repeats, mint_again, in_stored_form, stored_actions, creation}
use Rattle.mints.specs.Mints.{is_listed}
use Rattle.compact.specs.Compact.{most_instructions, byte, front, decode_one, decode_each, decode}
use Rattle.table.specs.Table.{record_data_length, first_record, cut_records, cut_table, glue_record, glue_records, glue_table}
use Rattle.token.specs.Tokens.{is_token_account, is_counted}
use Rattle.balance.specs.Balance.{share, holdings, balance}
use Rattle.limit.specs.Limit.{refusal_of, window_over, base, above, breaks, rule_answer, spent_change, is_limit, live_change, change_of, settled}
use Rattle.charge.specs.Classes.{is_sol, of_class, class_answer}
use Rattle.programs.specs.Programs.{programs_answer}
use Rattle.freeze.specs.Freeze.{first_with_key, same_part, same_authorities, is_still, keeps_freeze, all_frozen}
use Rattle.outflow.specs.Outflow.{decrease, decrease_of, sol_amount, amount_from}
use Rattle.judge.specs.Judge.{records_before, records_after, amount_for, charged, soundness, rules, steps, judged, region_after}
use Rattle.judge.specs.NamedValues.{one, left, recurring, called, spending}
use Rattle.bursar.specs.Run.{Created, after_run, numbers_of, taken_by, taken_where}
use Rattle.bursar.specs.Limits.{speaks_of, first_that, limit_of, recurring_of}
use Rattle.bursar.specs.Judges.{unspent, reset, sums, JudgesComputed}
use Rattle.bursar.specs.Example.{holding, morning, ExampleComputed}
use Rattle.bursar.specs.Witness.{desk, account, stock, order, term, WitnessComputed}

-- ---- regions that creation accepted, as a test

is_bytes : List ℕ → Bool
is_bytes [] = true
is_bytes (b ∷ bs) = ltb b 256 && is_bytes bs

are_bytes : (s : List ℕ) → is_bytes s ≡ true → Bytes s
unfolding is_bytes
are_bytes [] e i = omega arith
are_bytes (b ∷ bs) e zero = ltb-true _ _ ((and-eq-true_iff (ltb b 256) (is_bytes bs)).0 e).0
are_bytes (b ∷ bs) e (suc i) = are_bytes bs ((and-eq-true_iff (ltb b 256) (is_bytes bs)).0 e).1 i

is_created : List ℕ → Bool
unfolding is_bytes
is_created region = is_bytes region && accepts (creation region)

is_created_lem : (region : List ℕ) → is_created region ≡ true → Created region
unfolding is_created
is_created_lem region e = let (bytes, accepted) = (and-eq-true_iff (is_bytes region) (accepts (creation region))).0 e in (are_bytes region bytes, accepted)

-- ---- all that is computed

record All : Type 0 where
  example : ExampleComputed
  judges : JudgesComputed
  witness : WitnessComputed
  example_created : is_created (holding 100 0 0) ≡ true
  witness_created : is_created (desk 100 50 20 0 0) ≡ true
  left-created : is_created (left 100) ≡ true
  recurring-created : is_created (recurring 50 0 0) ≡ true

all : All
unfolding is_bytes is_created holding morning one left recurring called spending unspent reset desk account stock order term glue_table glue_records glue_record sums after_run numbers_of taken_by taken_where speaks_of first_that limit_of recurring_of judged region_after steps soundness rules charged amount_for amount_from decrease_of decrease sol_amount records_before records_after programs_answer all_frozen keeps_freeze first_with_key is_still same_authorities same_part part_at is_counted is_token_account class_answer of_class is_sol rule_answer breaks above base window_over refusal_of settled change_of live_change is_limit spent_change changed with_amounts stored_actions in_stored_form creation form_of all_keep keeps both_lists sol_repeats how_often mint_repeats mint_again is_token is_recurring key_of amounts_of is_listed expired cut first header_data_length data_length size_among glue glue_one number bytes_of number_at capped_sum floored_difference with_number_at highest first_refusal same_key same_bytes cut_table cut_records first_record record_data_length balance holdings share most_instructions byte front decode_one decode_each decode
all = record {
  example = record { numbers = refl; after = refl; of_sol = refl; window = refl; taken-first = refl; taken_then = refl };
  judges = record {
    ours_once = refl;
    ours_twice = refl;
    never_writing_lem = refl;
    settling_once = refl;
    settling_twice = refl;
    opening = refl;
    window = refl;
    taken_once = refl;
    spent_once = refl;
    fresh_is_reset = refl;
    reset_is_fresh = refl;
  };
  witness = record {
    each_mint_has_its_own = refl;
    numbers = refl;
    after = refl;
    of_sol = refl;
    of_paper = refl;
    of_pencils = refl;
    window = refl;
    taken-first = refl;
    taken_then = refl;
  };
  example_created = refl;
  witness_created = refl;
  left-created = refl;
  recurring-created = refl;
}

pub example_computed : ExampleComputed
example_computed = all.example

pub judges_computed : JudgesComputed
judges_computed = all.judges

pub witness_computed : WitnessComputed
witness_computed = all.witness

pub example_created : Created (holding 100 0 0)
example_created = is_created_lem _ all.example_created

pub witness_created : Created (desk 100 50 20 0 0)
witness_created = is_created_lem _ all.witness_created

pub left-created : Created (left 100)
left-created = is_created_lem _ all.left-created

pub recurring-created : Created (recurring 50 0 0)
recurring-created = is_created_lem _ all.recurring-created
