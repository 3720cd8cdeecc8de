-- `limit::above` meets its contract.
-- Assumes nothing.
use mathlib.Core.Path.{sym, ◌∙◌}
use Rattle.action.specs.Views.{action_at}
use Rattle.limit.proofs.Rules.{above-recurring, above_other}
use Rattle.limit.proofs.above.Goals as goal

pub returns-then-is_recurring : goal.returns-then-is_recurring
unfolding action_at
returns-then-is_recurring c =
    rw (c.limit.ensures, c.capped_sum.ensures, c.base_of.ensures)
    (sym (above-recurring _ _ _ _ c.amounts_of-amounts.ensures (sym c.is_recurring.ensures ∙ c.if-is_recurring.true)))

pub returns : goal.returns
unfolding action_at
returns c =
    rw c.remaining.ensures
    (sym (above_other _ _ _ _ c.amounts_of-amounts.ensures (sym c.is_recurring.ensures ∙ c.if-is_recurring.false)))
