-- what is left of the piece lies within it, and the piece keeps its length
use Rattle.std.proofs.Common.{◌≡◌, ◌≤◌, length}
use Rattle.replay.proofs.replay.Given as goal

abbrev pub invariant-loop : goal.invariant-loop
invariant-loop g l = (l.left.start ≤ l.left.end) × (l.left.end ≤ length l.piece) × (length l.piece ≡ length l.fn.piece)
