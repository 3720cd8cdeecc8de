-- `limit::breaks` meets its contract: an amount of 0 breaks nothing, an expired action allows nothing.
-- Assumes nothing.
use mathlib.Core.Path.{sym, ◌∙◌}
use native.Mathlib.Omega.{arith}
use Rattle.action.specs.Views.{action_at}
use Rattle.limit.proofs.Rules.{breaks_nothing, breaks-expired, breaks-above}
use Rattle.limit.proofs.breaks.Goals as goal

pub returns-then-amount-eq0 : goal.returns-then-amount-eq0
returns-then-amount-eq0 c = sym (breaks_nothing _ _ _ (omega arith))

pub returns-then-is_expired : goal.returns-then-is_expired
unfolding action_at
returns-then-is_expired c = sym (breaks-expired _ _ _ (omega arith) (sym c.is_expired.ensures ∙ c.if-is_expired.true))

pub returns : goal.returns
unfolding action_at
returns c = c.above.ensures ∙ sym (breaks-above _ _ _ (omega arith) (sym c.is_expired.ensures ∙ c.if-is_expired.false))
