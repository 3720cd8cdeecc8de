-- `creation::keeps_window` meets its contract: its test is the rule's.
-- Assumes nothing.
use Rattle.action.specs.Views.{action_at}
use mathlib.Core.Path.{sym, ◌∙◌}
use Rattle.creation.proofs.Keeping.{window_other, window_kept}
use Rattle.creation.proofs.keeps_window.Goals as goal

pub returns-then-not-is_recurring : goal.returns-then-not-is_recurring
unfolding action_at
returns-then-not-is_recurring c =
    let other = c.if-not-is_recurring.true in
    rw other (sym (window_other (action_at c.args.region.now c.args.view) (sym c.is_recurring.ensures ∙ other)))

pub returns-else-not-is_recurring : goal.returns-else-not-is_recurring
unfolding action_at
returns-else-not-is_recurring c =
    rw c.window.ensures
    (sym (window_kept _ _ c.amounts_of.ensures (sym c.is_recurring.ensures ∙ c.if-not-is_recurring.false)))
