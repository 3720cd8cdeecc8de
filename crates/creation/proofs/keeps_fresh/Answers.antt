-- `creation::keeps_fresh` meets its contract: each test is one of the rule's.
-- Assumes nothing.
use native.Mathlib.Omega.{arith}
use Rattle.std.proofs.lemmas.Bool.Decides.{nat_tests}
use Rattle.action.specs.Views.{action_at}
use mathlib.Core.Path.{sym, ◌∙◌}
use Rattle.creation.specs.Creation.{keeps}
use Rattle.creation.proofs.Keeping.{fresh_other}
use Rattle.creation.proofs.keeps_fresh.Goals as goal

pub returns-then-not-is_recurring : goal.returns-then-not-is_recurring
unfolding action_at
returns-then-not-is_recurring c = sym (fresh_other _ (sym c.is_recurring.ensures ∙ c.if-not-is_recurring.true))

pub returns-then-window-ne0 : goal.returns-then-window-ne0
unfolding keeps action_at
returns-then-window-ne0 c = grind (arith, nat_tests)

pub returns-else-window-ne0 : goal.returns-else-window-ne0
unfolding keeps action_at
returns-else-window-ne0 c = grind (arith, nat_tests)
