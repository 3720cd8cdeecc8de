-- `creation::sol_repeats` meets its contract, type by type.
-- Assumes nothing.
use native.Mathlib.Omega.{arith}
use Rattle.std.proofs.lemmas.Bool.Decides.{nat_tests}
use Rattle.creation.specs.Creation.{sol_repeats}
use Rattle.creation.proofs.sol_repeats.Goals as goal

pub returns-then-how_often-gt1-2 : goal.returns-then-how_often-gt1-2
unfolding sol_repeats
returns-then-how_often-gt1-2 c = grind (arith, nat_tests)

pub returns-else-how_often-gt1-2 : goal.returns-else-how_often-gt1-2
unfolding sol_repeats
returns-else-how_often-gt1-2 c = grind (arith, nat_tests)
