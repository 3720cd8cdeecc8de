-- `compact::parse` meets its contract. The loop's invariant: something is kept of each entry that is read so far, and reading on from `at`
-- gives what reading gives.
-- Assumes nothing.
use lib.ListN.{length}
use mathlib.Core.Path.{◌≡◌}
use Rattle.compact.proofs.Keeping.{KeptSoFar}
use Rattle.compact.proofs.parse.Given as goal

abbrev pub invariant-loop : goal.invariant-loop
invariant-loop g l = (length l.list.items ≡ l.counter) × KeptSoFar (goal.F-post g l.keep) l.bytes l.count l.list.items l.at
