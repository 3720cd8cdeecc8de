-- `limit::rule_answer` meets its contract.
-- Assumes nothing.
use mathlib.Core.Path.{sym, ◌∙◌}
use Rattle.action.specs.Views.{action_at}
use Rattle.limit.proofs.Rules.{rule_broken, rule_kept}
use Rattle.limit.proofs.rule_answer.Goals as goal

pub returns-then-breaks : goal.returns-then-breaks
unfolding action_at
returns-then-breaks c =
    rw c.refusal_of.ensures (sym (rule_broken _ _ (sym c.breaks.ensures ∙ c.if-breaks.true)))

pub returns : goal.returns
returns c = sym (rule_kept _ _ (sym c.breaks.ensures ∙ c.if-breaks.false))
