-- `creation::validate_actions_buffer` meets its contract: cutting decides first, then the form.
-- Assumes nothing.
use mathlib.Core.Path.{sym, ◌∙◌}
use Rattle.std.proofs.lemmas.Result.{err_from_is_err_and}
use Rattle.answer.proofs.Lent.{refused_lent, given_lent}
use Rattle.creation.proofs.Forms.{creation_by_form, creation_refused}
use Rattle.creation.proofs.validate_actions_buffer.Goals as goal

pub returns-in_err-cut_into : goal.returns-in_err-cut_into
returns-in_err-cut_into c =
    let p = err_from_is_err_and c.from_residual.result c.from_residual.ensures.1 in
    rw (p.1, p.2) (sym (creation_refused _ _ (refused_lent _ _ (sym c.in_err-cut_into.was ∙ c.cut_into.ensures.answer))))

pub returns : goal.returns
returns c =
    let cutting = given_lent _ _ _ (sym c.in_ok-cut_into.was ∙ c.cut_into.ensures.answer) c.cut_into.ensures.views_after in
    c.form.ensures ∙ rw c.as_slice.ensures.value (sym (creation_by_form _ _ cutting))
