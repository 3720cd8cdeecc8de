-- `table::read_records` meets its contract. The loop's invariant is `CutSoFar`.
-- Assumes nothing.
use mathlib.Core.Path.{◌≡◌}
use lib.ListN.{length}
use Rattle.table.proofs.Parsing.{CutSoFar}
use Rattle.table.proofs.read_records.Given as goal

abbrev pub invariant-loop : goal.invariant-loop
invariant-loop l = (length l.views.items ≡ l.counter) × CutSoFar l.table l.counted l.views.items l.at
