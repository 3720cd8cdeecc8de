-- What the code compares of two accounts' data: keys.
-- Assumes nothing.
use Rattle.std.specs.Prelude.{ℕ, Bool, ◌&&◌, List, eqb}
use Rattle.number.specs.Number.{number_at}
use Rattle.part.specs.Part.{part_at}
use Rattle.key.specs.Key.{key_length, same_key}

-- the keys at a place are there and the same
abbrev pub same_key_at : ℕ → List ℕ → List ℕ → Bool
same_key_at at p q = same_key (part_at p at key_length) (part_at q at key_length)

-- the optional keys are the same: the tags, which have a place of their own, and the keys
abbrev pub same_optional_key_at : ℕ → ℕ → List ℕ → List ℕ → Bool
same_optional_key_at tag at p q = eqb (number_at 4 p tag) (number_at 4 q tag) && same_key_at at p q
