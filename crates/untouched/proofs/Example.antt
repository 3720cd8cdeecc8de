-- Which bytes may change, of SOL and of tokens, computed from the definitions.
-- Assumes nothing.
use mathlib.Core.Path.{◌≡◌, refl}
use Prim.Native.Nat.{◌+◌}
use mathlib.Core.List.{◌++◌, flat_map}
use Rattle.answer.specs.Numbers.{first_refusal}
use Rattle.number.specs.Number.{number, bytes_of, number_at, capped_sum, floored_difference, highest}
use Rattle.part.specs.Part.{part_at}
use Rattle.key.specs.Key.{same_key, same_bytes}
use Rattle.action.specs.Action.{data_length, size_among, expired}
use Rattle.action.specs.Fields.{is_token, is_recurring, key_of, amounts_of}
use Rattle.region.specs.Region.{glue, glue_one, cut, first, header_data_length}
use Rattle.creation.specs.Creation.{form_of, all_keep, keeps, both_lists, sol_repeats, how_often, mint_repeats, mint_again, in_stored_form, stored_actions}
use Rattle.mints.specs.Mints.{is_listed}
use Rattle.compact.specs.Compact.{most_instructions, byte, front, decode_one, decode_each, decode}
use Rattle.table.specs.Table.{cut_table, cut_records, first_record}
use Rattle.balance.specs.Balance.{balance}
use Rattle.limit.specs.Limit.{refusal_of, window_over, base, above, breaks, rule_answer, is_limit}
use Rattle.charge.specs.Classes.{is_sol, of_class, class_answer}
use Rattle.programs.specs.Programs.{programs_answer}
use Rattle.freeze.specs.Freeze.{all_frozen}
use Rattle.judge.specs.Judge.{records_before, records_after, amount_for, charged, soundness, rules, steps, judged}
use Rattle.judge.specs.NamedValues.{one, left, recurring, called, spending}
use Rattle.untouched.specs.Example.{holding, taking_tokens, both_limits}
use Rattle.untouched.specs.MayChange.{may, may_not, of_limit, of_amounts, of_action, may_change}

pub as_computed :
    -- of a limit: what is left
    (may_change (left 100) (spending 0 40) ≡ may_not 11 ++ may 8)
    -- of a recurring limit: what is spent, and the last reset where the window is over
    × (may_change (recurring 100 40 10) (spending 20 60) ≡ may_not 19 ++ may 8 ++ may_not 16)
    × (may_change (recurring 100 100 10) (spending 21 1) ≡ may_not 19 ++ may 8 ++ may_not 8 ++ may 8)
    -- of a SolLimit and a TokenLimit: what is left of the tokens, where tokens are taken
    × (may_change both_limits taking_tokens ≡ may_not 19 ++ may_not (11 + 32) ++ may 8)
    -- nothing where nothing is taken, and nothing where the call is refused
    × (may_change (left 100) (spending 0 0) ≡ may_not 19)
    × (may_change (left 100) (spending 0 101) ≡ may_not 19)
unfolding flat_map holding taking_tokens both_limits may_change of_action of_amounts of_limit one left recurring called spending judged steps soundness rules charged amount_for records_before records_after programs_answer all_frozen class_answer of_class is_sol rule_answer breaks above base window_over refusal_of is_limit stored_actions in_stored_form form_of all_keep keeps both_lists sol_repeats how_often mint_repeats mint_again is_token is_recurring key_of amounts_of is_listed expired cut first header_data_length data_length size_among glue glue_one number bytes_of number_at capped_sum floored_difference highest first_refusal same_key same_bytes cut_table cut_records first_record balance most_instructions byte front decode_one decode_each decode part_at
as_computed = (refl, refl, refl, refl, refl, refl)
