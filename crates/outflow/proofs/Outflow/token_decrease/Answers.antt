-- `outflow::Outflow::token_decrease` meets its contract.
-- Assumes nothing.
use Rattle.std.proofs.Common.{◌∙◌}
use Rattle.outflow.proofs.Amounts.{mint_decreased}
use Rattle.outflow.proofs.Outflow.token_decrease.Goals as goal

pub returns : goal.returns
returns c = c.floored_difference.ensures ∙ mint_decreased _ _ _ _ _ _ c.balance-had.ensures c.balance-has.ensures
