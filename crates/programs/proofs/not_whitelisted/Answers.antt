-- `programs::not_whitelisted` meets its contract.
-- Assumes nothing.
use mathlib.Core.Path.{sym, ap, ◌∙◌}
use mathlib.Core.Bool.{not}
use native.Mathlib.Omega.{arith}
use borrow.Author.Tests.{le-ltb}
use Rattle.programs.proofs.Lists.{no_whitelist_there, whitelist_there}
use Rattle.programs.proofs.not_whitelisted.Goals as goal

pub returns-then-how_often-gt0 : goal.returns-then-how_often-gt0
returns-then-how_often-gt0 c = ap not c.in_live_list.ensures ∙ sym (whitelist_there _ _ _ _ (omega arith))

pub returns-else-how_often-gt0 : goal.returns-else-how_often-gt0
returns-else-how_often-gt0 c = rw (no_whitelist_there c.args.slot c.args.region.now c.args.views.now c.args.key.now (omega arith)) (le-ltb _ _ (omega arith))
