-- `limit::spent_change` meets its contract.
-- Assumes nothing.
use mathlib.Core.Path.{sym, ◌∙◌}
use Rattle.limit.proofs.Rules.{spent_anew, spent_more}
use Rattle.limit.proofs.spent_change.Goals as goal

pub returns-then-window_over : goal.returns-then-window_over
returns-then-window_over c =
    rw (c.window_start.ensures, c.window.ensures)
    (sym (spent_anew _ _ _ (sym c.window_over.ensures ∙ c.if-window_over.true)))

pub returns : goal.returns
returns c =
    rw (c.capped_sum.ensures, c.spent.ensures, c.last_reset.ensures)
    (sym (spent_more _ _ _ (sym c.window_over.ensures ∙ c.if-window_over.false)))
