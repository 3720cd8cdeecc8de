-- `compact::Entries::as_slice` meets its contract: there are never more entries than places.
-- Assumes nothing.
use native.Mathlib.Omega.{arith}
use Rattle.compact.specs.Compact.{most_instructions}
use Rattle.compact.proofs.Entries.as_slice.Goals as goal

pub shared_ref_as_front-result : goal.shared_ref_as_front-result
unfolding most_instructions
shared_ref_as_front-result c = omega (arith, c.self.invariant.few)
