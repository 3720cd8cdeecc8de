-- The examples' lines hold by computation: those that the document shows, and those of inputs that are cut.
-- Assumes nothing.
use mathlib.Core.Path.{◌≡◌, refl}
use mathlib.Core.List.{[], ◌∷◌}
use lib.ListN.{take}
use Rattle.answer.specs.Numbers.{first_refusal}
use Rattle.number.specs.Number.{number, bytes_of, number_at, capped_sum, floored_difference, with_number_at, highest}
use Rattle.part.specs.Part.{part_at}
use Rattle.key.specs.Key.{same_key, same_bytes}
use Rattle.action.specs.Action.{data_length, size_among, expired}
use Rattle.action.specs.Fields.{is_token, is_recurring, key_of, amounts_of}
use Rattle.change.specs.Changed.{changed, with_amounts}
use Rattle.region.specs.Region.{glue, glue_one, cut as cut_actions, first, header_data_length}
use Rattle.creation.specs.Creation.{form_of, all_keep, keeps, both_lists, sol_repeats, how_often, mint_repeats, mint_again, in_stored_form, stored_actions, creation}
use Rattle.mints.specs.Mints.{is_listed}
use Rattle.compact.specs.Compact.{most_instructions, byte, front, decode_one, decode_each, decode}
use Rattle.table.specs.Table.{cut_table, cut_records, first_record}
use Rattle.balance.specs.Balance.{balance}
use Rattle.limit.specs.Limit.{refusal_of, window_over, base, above, breaks, rule_answer, spent_change, is_limit, live_change, change_of, settled}
use Rattle.charge.specs.Classes.{is_sol, of_class, class_answer}
use Rattle.programs.specs.Programs.{programs_answer}
use Rattle.freeze.specs.Freeze.{all_frozen}
use Rattle.judge.specs.Judge.{records_before, records_after, amount_for, charged, soundness, rules, steps, judged, region_after}
use Rattle.judge.specs.NamedValues.{one, left}
use Rattle.frame.specs.Frame.{opening_region, parts_length, whole_call, front_of}
use Rattle.replayed.specs.Replay.{region_line, call_line, cut_line, end_line, calls_up_to, calls_in, call_lines, lines_from, replay_of}
use Rattle.replayed.specs.Example.{spending_bytes, b1_input, refused_input, long_input}

pub as_the_document_shows : (replay_of b1_input ≡ region_line 0 ∷ call_line 1 0 ∷ call_line 2 7 ∷ call_line 3 0 ∷ end_line 2 ∷ [])
    × (replay_of (take 263 b1_input) ≡ region_line 0 ∷ call_line 1 0 ∷ call_line 2 7 ∷ cut_line ∷ end_line 1 ∷ [])
    × (replay_of (take 21 b1_input) ≡ region_line 0 ∷ end_line 0 ∷ [])
    × (replay_of (take 20 b1_input) ≡ cut_line ∷ end_line 0 ∷ [])
    × (replay_of (take 1 b1_input) ≡ cut_line ∷ end_line 0 ∷ [])
    × (replay_of [] ≡ cut_line ∷ end_line 0 ∷ [])
    × (replay_of refused_input ≡ region_line 1 ∷ end_line 0 ∷ [])
    × (replay_of long_input ≡ region_line 0 ∷ cut_line ∷ end_line 0 ∷ [])
unfolding refused_input long_input replay_of lines_from call_lines calls_in calls_up_to b1_input spending_bytes one left opening_region parts_length whole_call front_of part_at judged region_after steps soundness rules charged amount_for records_before records_after programs_answer all_frozen class_answer of_class is_sol rule_answer breaks above base window_over refusal_of settled change_of live_change is_limit spent_change changed with_amounts stored_actions in_stored_form creation form_of all_keep keeps both_lists sol_repeats how_often mint_repeats mint_again is_token is_recurring key_of amounts_of is_listed expired cut_actions first header_data_length data_length size_among glue glue_one number bytes_of number_at capped_sum floored_difference with_number_at highest first_refusal same_key same_bytes cut_table cut_records first_record balance most_instructions byte front decode_one decode_each decode
as_the_document_shows = (refl, refl, refl, refl, refl, refl, refl, refl)
