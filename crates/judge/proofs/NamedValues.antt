-- The named values hold: those of judged calls by computation, and with those of creation and of compact instructions as one table.
-- Assumes nothing.
use mathlib.Core.Path.{refl}
use mathlib.Core.List.{List, [], ◌∷◌, ◌++◌}
use Rattle.answer.specs.NamedValue.{NamedValue, AsNamed}
use Rattle.answer.specs.Numbers.{first_refusal}
use Rattle.number.specs.Number.{number, bytes_of, number_at, capped_sum, floored_difference, with_number_at, highest}
use Rattle.key.specs.Key.{same_key, same_bytes}
use Rattle.action.specs.Action.{data_length, size_among, expired}
use Rattle.action.specs.Fields.{is_token, is_recurring, key_of, amounts_of}
use Rattle.change.specs.Changed.{changed}
use Rattle.region.specs.Region.{glue, glue_one, cut, first, header_data_length}
use Rattle.creation.specs.Creation.{form_of, all_keep, keeps, both_lists, sol_repeats, how_often, mint_repeats, mint_again, in_stored_form, stored_actions}
use Rattle.creation.specs.NamedValues.{named_values as creation_values}
use Rattle.creation.proofs.NamedValues.{as_named as creation_as_named}
use Rattle.mints.specs.Mints.{is_listed}
use Rattle.compact.specs.Compact.{most_instructions, byte, front, decode_one, decode_each, decode}
use Rattle.compact.specs.NamedValues.{named_values as compact_values}
use Rattle.compact.proofs.NamedValues.{as_named as compact_as_named}
use Rattle.table.specs.Table.{cut_table, cut_records, first_record}
use Rattle.balance.specs.Balance.{balance}
use Rattle.limit.specs.Limit.{refusal_of, window_over, base, above, breaks, rule_answer, spent_change, is_limit, live_change, change_of, settled}
use Rattle.charge.specs.Classes.{is_sol, of_class, class_answer}
use Rattle.programs.specs.Programs.{programs_answer}
use Rattle.freeze.specs.Freeze.{all_frozen}
use Rattle.judge.specs.Judge.{records_before, records_after, amount_for, charged, soundness, rules, steps, judged, region_after}
use Rattle.judge.specs.NamedValues.{one, left, recurring, called, spending, outcome, call_values, named_values}

both : (vs ws : List NamedValue) → AsNamed vs → AsNamed ws → AsNamed (vs ++ ws)
both [] ws a b = b
both (v ∷ vs) ws a b = (a.0, both vs ws a.1 b)

pub calls_as_named : AsNamed call_values
unfolding call_values one left recurring called spending outcome judged region_after steps soundness rules charged amount_for records_before records_after programs_answer all_frozen class_answer of_class is_sol rule_answer breaks above base window_over refusal_of settled change_of live_change is_limit spent_change changed stored_actions in_stored_form form_of all_keep keeps both_lists sol_repeats how_often mint_repeats mint_again is_token is_recurring key_of amounts_of is_listed expired cut first header_data_length data_length size_among glue glue_one number bytes_of number_at capped_sum floored_difference with_number_at highest first_refusal same_key same_bytes cut_table cut_records first_record balance most_instructions byte front decode_one decode_each decode
calls_as_named = (refl, (refl, (refl, (refl, (refl, (refl, (refl, (refl, (refl, (refl, (refl, (refl, (refl, tt)))))))))))))

pub as_named : AsNamed named_values
unfolding named_values
as_named = both (creation_values ++ call_values) compact_values (both creation_values call_values creation_as_named calls_as_named) compact_as_named
