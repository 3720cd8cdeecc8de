-- The named values of creation hold, by computation.
-- Assumes nothing.
use mathlib.Core.Path.{refl}
use Rattle.answer.specs.NamedValue.{AsNamed}
use Rattle.answer.specs.Numbers.{first_refusal}
use Rattle.number.specs.Number.{number, bytes_of, number_at}
use Rattle.key.specs.Key.{same_key, same_bytes}
use Rattle.action.specs.Action.{data_length, size_among}
use Rattle.action.specs.Fields.{is_token, is_recurring, key_of, amounts_of}
use Rattle.region.specs.Region.{glue, cut, first, header_data_length}
use Rattle.creation.specs.Creation.{creation, form_of, all_keep, keeps, both_lists, sol_repeats, how_often, mint_repeats, mint_again}
use Rattle.creation.specs.NamedValues.{named_values}

pub as_named : AsNamed named_values
unfolding named_values creation cut first header_data_length data_length size_among glue number bytes_of number_at form_of first_refusal all_keep keeps both_lists sol_repeats how_often mint_repeats mint_again is_token is_recurring key_of amounts_of same_key same_bytes
as_named = (refl, (refl, (refl, (refl, (refl, (refl, (refl, (refl, (refl, (refl, (refl, tt)))))))))))
