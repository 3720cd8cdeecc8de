-- `balance::add_record` meets its contract. The loop's invariant: the totals of the first `j` mints have the record.
-- Assumes nothing.
use Rattle.std.proofs.Common.{◌≡◌, take, length}
use Rattle.keys.specs.Views.{keys_in}
use Rattle.account.specs.Views.{record_at}
use Rattle.balance.specs.Views.{with_record}
use Rattle.balance.proofs.add_record.Given as goal

abbrev pub invariant-loop-j : goal.invariant-loop-j
invariant-loop-j l =
    (length l.totals ≡ 16)
    × (l.totals ≡ with_record l.vault (record_at l.table l.fn.view) (take l.j (keys_in l.mints)) l.fn.totals)
