-- `encoding::serialize_compact_instructions` meets its contract: the tests are the definition's, in its order. The loop's invariant: storing
-- the encodings that are left at `at` gives what storing all of them gives.
-- Assumes nothing.
use Rattle.encoding.proofs.Writing.{StoredSoFar}
use Rattle.encoding.proofs.serialize_compact_instructions.Given as goal

abbrev pub invariant-loop-entry : goal.invariant-loop-entry
invariant-loop-entry l = StoredSoFar l.source l.entries l.fn.out l.out l.at l.entry-index
