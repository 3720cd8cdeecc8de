-- `balance::balances` meets its contract. The loop's invariant: the totals over the records so far.
-- Assumes nothing.
use Rattle.std.proofs.Common.{◌≡◌}
use Rattle.keys.specs.Views.{keys_in}
use Rattle.balance.proofs.Totals.{laid}
use Rattle.balance.proofs.balances.Given as goal

abbrev pub invariant-loop-view : goal.invariant-loop-view
invariant-loop-view l = l.list ≡ laid l.vault l.table.bytes.now (keys_in l.mints) l.table.records.now l.view-index
