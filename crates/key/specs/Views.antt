-- The values that the code answers with: keys by value.
-- Assumes nothing.
use Rattle.std.specs.Prelude.{ℕ, cond, List, eqb, length, replicate}
use Rattle.key.specs.declared.Key.{Key}
use Rattle.key.specs.Key.{key_length}

-- the key of zeros
unfoldable pub zero_key : Key
zero_key = record { bytes = replicate 32 0 }

-- the key of a part that has its length, and the key of zeros for any other
unfoldable pub key_from : List ℕ → Key
key_from part = cond (eqb (length part) key_length) (record { bytes = part }) zero_key
