-- `outflow::Outflow::amounts` meets its contract. The loop's invariant: the first `i` amounts are laid.
-- Assumes nothing.
use Rattle.std.proofs.Common.{◌≡◌}
use Rattle.account.specs.Views.{table_records}
use Rattle.row.specs.Views.{actions_in}
use Rattle.outflow.specs.Outflow.{amount_from}
use Rattle.outflow.proofs.Amounts.{laid}
use Rattle.outflow.proofs.Outflow.amounts.Given as goal

abbrev pub invariant-loop-i : goal.invariant-loop-i
invariant-loop-i l =
    l.list ≡ laid (amount_from l.self.vault.now (table_records l.self.before) (table_records l.self.after) l.self.sol l.self.gross) (actions_in l.region l.views) l.i
