-- `encoding::size_of` meets its contract. The loop's invariant: sizing on from the entry at hand gives what sizing from the first gives.
-- Assumes nothing.
use Rattle.encoding.proofs.Writing.{SizedSoFar}
use Rattle.encoding.proofs.size_of.Given as goal

abbrev pub invariant-loop-entry : goal.invariant-loop-entry
invariant-loop-entry l = SizedSoFar l.source l.entries l.entry-index l.size
