-- `limit::base_of` meets its contract.
-- Assumes nothing.
use mathlib.Core.Path.{sym, ◌∙◌}
use Rattle.limit.specs.Limit.{base}
use Rattle.limit.proofs.base_of.Goals as goal

pub returns-then-window_over : goal.returns-then-window_over
unfolding base
returns-then-window_over c = rw (sym c.window_over.ensures ∙ c.if-window_over.true)

pub returns-else-window_over : goal.returns-else-window_over
unfolding base
returns-else-window_over c = rw (sym c.window_over.ensures ∙ c.if-window_over.false) c.spent.ensures
