-- `limit::live_change` meets its contract.
-- Assumes nothing.
use mathlib.Core.Path.{sym, ◌∙◌}
use Rattle.action.specs.Views.{action_at}
use Rattle.limit.proofs.Rules.{change-recurring, change-limit, change_none}
use Rattle.limit.proofs.live_change.Goals as goal

pub returns-then-is_recurring : goal.returns-then-is_recurring
unfolding action_at
returns-then-is_recurring c =
    c.spent_change.ensures
    ∙ sym (change-recurring _ _ _ _ c.amounts_of-amounts.ensures (sym c.is_recurring.ensures ∙ c.if-is_recurring.true))

pub returns-then-is_limit : goal.returns-then-is_limit
unfolding action_at
returns-then-is_limit c =
    rw (c.floored_difference.ensures, c.remaining.ensures)
    (sym
    (change-limit _ _ _ _ c.amounts_of-amounts.ensures (sym c.is_recurring.ensures ∙ c.if-is_recurring.false)
    (sym c.is_limit.ensures ∙ c.if-is_limit.true)))

pub returns : goal.returns
unfolding action_at
returns c =
    sym
    (change_none _ _ _ _ c.amounts_of-amounts.ensures (sym c.is_recurring.ensures ∙ c.if-is_recurring.false)
    (sym c.is_limit.ensures ∙ c.if-is_limit.false))
