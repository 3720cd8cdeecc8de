-- `change::write_change` meets its contract, change by change.
-- Assumes nothing.
use Rattle.change.proofs.write_change.Goals as goal

pub returns-in-Remaining : goal.returns-in-Remaining
returns-in-Remaining c = cc c.write_u64.ensures.1

pub returns-in-Spent : goal.returns-in-Spent
returns-in-Spent c = cc c.write_spent.ensures
