-- `table::cut_places` meets its contract: the list that was cut into is answered.
-- Assumes nothing.
use mathlib.Core.Path.{sym, ◌∙◌}
use Rattle.std.proofs.lemmas.Result.{err_from_is_err_and}
use Rattle.answer.proofs.Lent.{refused_lent, given_lent}
use Rattle.table.proofs.cut_places.Goals as goal

pub returns-in_err-cut_into : goal.returns-in_err-cut_into
returns-in_err-cut_into c =
    let p = err_from_is_err_and c.from_residual.result c.from_residual.ensures.1 in
    rw (p.1, p.2) (sym (refused_lent _ _ (sym c.in_err-cut_into.was ∙ c.cut_into.ensures.answer)))

pub returns : goal.returns
returns c = sym (given_lent _ _ _ (sym c.in_ok-cut_into.was ∙ c.cut_into.ensures.answer) c.cut_into.ensures.views_after)
