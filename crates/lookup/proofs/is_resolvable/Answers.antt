-- `lookup::is_resolvable` meets its contract: the tests are the definition's, in its order.
-- Assumes nothing.
use native.Mathlib.Omega.{arith}
use Rattle.std.proofs.lemmas.Bool.Decides.{nat_tests}
use Rattle.lookup.specs.Indexes.{resolvable}
use Rattle.lookup.proofs.is_resolvable.Goals as goal

pub returns-then-entry-count : goal.returns-then-entry-count
unfolding resolvable
returns-then-entry-count c = grind (arith, nat_tests)

pub returns-else-entry-count : goal.returns-else-entry-count
unfolding resolvable
returns-else-entry-count c = grind (arith, nat_tests)
