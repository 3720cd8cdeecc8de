-- `run::State::opened` meets its contract, by the two cases of the answer.
-- Assumes nothing.
use mathlib.Core.Path.{sym, ◌∙◌}
use Rattle.run.proofs.Laws.{opened_accepted, opened_refused, is_accepted, is_refused}
use Rattle.run.proofs.State.opened.Goals as goal

pub returns-then-is_err : goal.returns-then-is_err
returns-then-is_err c = c.stopped.ensures ∙ sym (opened_refused _ _ _ _ (is_refused _ (sym c.is_err.ensures.value ∙ c.if-is_err.true)))

pub returns : goal.returns
returns c = sym (opened_accepted _ _ _ _ (is_accepted _ (sym c.is_err.ensures.value ∙ c.if-is_err.false)))
