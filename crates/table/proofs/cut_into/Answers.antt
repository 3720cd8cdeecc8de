-- `table::cut_into` meets its contract: what a refused table left in the list is taken out of it.
-- Assumes nothing.
use mathlib.Core.Path.{sym, ap, ◌∙◌}
use Rattle.std.specs.Result.{is_err}
use Rattle.answer.proofs.Lent.{lent_refused, lent_given}
use Rattle.table.proofs.cut_into.Goals as goal

pub returns-then-is_err-clause-views_after : goal.returns-then-is_err-clause-views_after
returns-then-is_err-clause-views_after c =
    let read = c.read_records-answer.ensures in
    rw c.clear-then-is_err.ensures (lent_refused _ _ (ap is_err (sym read.answer) ∙ sym c.is_err.ensures.value ∙ c.if-is_err.true))

pub returns-else-is_err-clause-views_after : goal.returns-else-is_err-clause-views_after
returns-else-is_err-clause-views_after c =
    let read = c.read_records-answer.ensures in
    lent_given _ _ _ (ap is_err (sym read.answer) ∙ sym c.is_err.ensures.value ∙ c.if-is_err.false) (rw read.answer at read.all)
