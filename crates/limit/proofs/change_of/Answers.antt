-- `limit::change_of` meets its contract: nothing for an amount of 0 or into what is expired.
-- Assumes nothing.
use mathlib.Core.Path.{sym, ◌∙◌}
use native.Mathlib.Omega.{arith}
use Rattle.action.specs.Views.{action_at}
use Rattle.limit.proofs.Rules.{unchanged_nothing, unchanged_expired, changed_live}
use Rattle.limit.proofs.change_of.Goals as goal

pub returns-then-amount-eq0 : goal.returns-then-amount-eq0
returns-then-amount-eq0 c = sym (unchanged_nothing _ _ (omega arith))

pub returns-then-is_expired : goal.returns-then-is_expired
unfolding action_at
returns-then-is_expired c = sym (unchanged_expired _ _ (omega arith) (sym c.is_expired.ensures ∙ c.if-is_expired.true))

pub returns : goal.returns
unfolding action_at
returns c = c.live_change.ensures ∙ sym (changed_live _ _ (omega arith) (sym c.is_expired.ensures ∙ c.if-is_expired.false))
