-- `number::floored_difference` meets its contract: the library's difference stops at 0.
-- Assumes nothing.
use native.Mathlib.Omega.{arith}
use Rattle.number.specs.Number.{floored_difference}
use Rattle.number.proofs.floored_difference.Goals as goal

pub returns : goal.returns
unfolding floored_difference
returns c = omega arith
