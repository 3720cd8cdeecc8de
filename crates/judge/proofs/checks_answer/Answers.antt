-- `judge::checks_answer` meets its contract: the programs decide first.
-- Assumes nothing.
use mathlib.Core.Path.{sym, ◌∙◌}
use Rattle.std.proofs.lemmas.Result.{err_from_is_err_and}
use Rattle.judge.proofs.Steps.{checks_refused, checks_thawed, checks_passed}
use Rattle.judge.proofs.checks_answer.Goals as goal

pub returns-in_err-evaluate_pre_actions : goal.returns-in_err-evaluate_pre_actions
returns-in_err-evaluate_pre_actions c =
    let p = err_from_is_err_and c.from_residual.result c.from_residual.ensures.1 in
    rw (p.1, p.2) (sym (checks_refused _ _ _ _ _ _ _ (sym c.evaluate_pre_actions.ensures ∙ c.in_err-evaluate_pre_actions.was)))

pub returns-then-not-verify_token_authorities_unchanged : goal.returns-then-not-verify_token_authorities_unchanged
returns-then-not-verify_token_authorities_unchanged c =
    sym
    (checks_thawed _ _ _ _ _ _ _ (sym c.evaluate_pre_actions.ensures ∙ c.in_ok-evaluate_pre_actions.was)
    (sym c.verify_token_authorities_unchanged.ensures ∙ c.if-not-verify_token_authorities_unchanged.true))

pub returns : goal.returns
returns c =
    sym
    (checks_passed _ _ _ _ _ _ _ (sym c.evaluate_pre_actions.ensures ∙ c.in_ok-evaluate_pre_actions.was)
    (sym c.verify_token_authorities_unchanged.ensures ∙ c.if-not-verify_token_authorities_unchanged.false))
