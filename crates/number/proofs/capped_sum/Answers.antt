-- `number::capped_sum` meets its contract: the library's sum stops at the highest number of 64 bits.
-- Assumes nothing.
use native.Mathlib.Omega.{arith}
use Rattle.number.specs.Number.{capped_sum, highest}
use Rattle.number.proofs.capped_sum.Goals as goal

pub returns : goal.returns
unfolding capped_sum highest
returns c = omega arith
