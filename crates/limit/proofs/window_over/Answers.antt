-- `limit::window_over` meets its contract.
-- Assumes nothing.
use Rattle.limit.specs.Limit.{window_over}
use Rattle.limit.proofs.window_over.Goals as goal

pub returns : goal.returns
unfolding window_over
returns c = rw (c.window.ensures, c.floored_difference.ensures, c.last_reset.ensures)
