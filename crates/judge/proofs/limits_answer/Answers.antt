-- `judge::limits_answer` meets its contract: the SOL rules decide first.
-- Assumes nothing.
use mathlib.Core.Path.{sym, ◌∙◌}
use Rattle.std.proofs.lemmas.Result.{err_from_is_err_and}
use Rattle.judge.proofs.Steps.{limits_refused, limits_decided}
use Rattle.judge.proofs.limits_answer.Goals as goal

pub returns-in_err-class_answer : goal.returns-in_err-class_answer
returns-in_err-class_answer c =
    let p = err_from_is_err_and c.from_residual.result c.from_residual.ensures.1 in
    rw (p.1, p.2, limits_refused _ _ (sym c.class_answer.ensures ∙ c.in_err-class_answer.was))

pub returns : goal.returns
returns c = c.class_answer-2.ensures ∙ sym (limits_decided _ _ (sym c.class_answer.ensures ∙ c.in_ok-class_answer.was))
