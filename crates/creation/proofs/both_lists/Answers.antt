-- `creation::both_lists` meets its contract, test by test.
-- Assumes nothing.
use native.Mathlib.Omega.{arith}
use mathlib.Core.Path.{sym}
use borrow.Author.Tests.{le-ltb}
use Rattle.row.specs.Views.{kinds_in}
use Rattle.creation.proofs.Keeping.{no_whitelist, a_whitelist}
use Rattle.creation.proofs.both_lists.Goals as goal

pub returns-then-how_often-gt0 : goal.returns-then-how_often-gt0
returns-then-how_often-gt0 c = rw c.how_often-then-how_often-gt0.ensures (sym (a_whitelist (kinds_in c.args.views.now) (omega arith)))

pub returns-else-how_often-gt0 : goal.returns-else-how_often-gt0
returns-else-how_often-gt0 c = rw (no_whitelist (kinds_in c.args.views.now) (omega arith)) (le-ltb _ _ (omega arith))
