-- `change::write_spent` meets its contract: one write after the other.
-- Assumes nothing.
use Rattle.change.proofs.write_spent.Goals as goal

pub returns : goal.returns
returns c = rw (← c.write_u64.ensures.1) c.write_u64-2.ensures.1
