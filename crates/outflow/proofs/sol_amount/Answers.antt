-- `outflow::sol_amount` meets its contract.
-- Assumes nothing.
use Rattle.outflow.proofs.Amounts.{gross_amount, sol_amount_lem}
use Rattle.outflow.proofs.sol_amount.Goals as goal

pub returns-then-kind-eq-SOL_MAX_PER_TX : goal.returns-then-kind-eq-SOL_MAX_PER_TX
returns-then-kind-eq-SOL_MAX_PER_TX c = gross_amount _ _ _ c.if-kind-eq-SOL_MAX_PER_TX.true

pub returns-else-kind-eq-SOL_MAX_PER_TX : goal.returns-else-kind-eq-SOL_MAX_PER_TX
returns-else-kind-eq-SOL_MAX_PER_TX c = sol_amount_lem _ _ _ c.if-kind-eq-SOL_MAX_PER_TX.false
