-- `region::read_actions` meets its contract. The loop's invariant is `CutSoFar`; what is left of the region falls.
-- Assumes nothing.
use Prim.Native.Nat.{◌-◌}
use lib.ListN.{length}
use Rattle.region.proofs.Parsing.{CutSoFar}
use Rattle.region.proofs.read_actions.Given as goal

abbrev pub invariant-loop-at : goal.invariant-loop-at
invariant-loop-at l = CutSoFar l.region l.views.items l.at

abbrev pub decreases-loop-at : goal.decreases-loop-at
decreases-loop-at l = length l.region - l.at
