-- The named values of compact instructions hold, by computation.
-- Assumes nothing.
use mathlib.Core.Path.{refl}
use Rattle.answer.specs.NamedValue.{AsNamed}
use Rattle.number.specs.Number.{number, bytes_of}
use Rattle.compact.specs.Compact.{most_instructions, encode_one, byte, front, decode_one, decode_each, decode}
use Rattle.compact.specs.Views.{entry_at, entries_from, reading_refused, reading}
use Rattle.compact.specs.NamedValues.{reading_numbers, named_values}

pub as_named : AsNamed named_values
unfolding named_values reading_numbers most_instructions encode_one byte front decode_one decode_each decode entry_at entries_from reading_refused reading number bytes_of
as_named = (refl, (refl, (refl, tt)))
