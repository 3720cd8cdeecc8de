-- The values that the code answers with: a sum that stands at the place of a key.
-- Assumes nothing.
use Rattle.std.specs.Prelude.{ℕ, Option, None, Some, slice_get}
use Rattle.balance.specs.declared.Sums.{Sums}

-- the sum at a place, if there is one
abbrev pub sum_for : Option ℕ → Sums → Option ℕ
sum_for None sums = None
sum_for (Some at) sums = slice_get sums.list at
