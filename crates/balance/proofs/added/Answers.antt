-- `balance::added` meets its contract: each test is one of the definition's, the mint's first.
-- Assumes nothing.
use Rattle.std.proofs.Common.{arith, sym, ◌∙◌}
use Rattle.account.specs.Views.{record_at}
use Rattle.balance.proofs.Adding.{stays_other_mint, stays_not_counted, grows_counted}
use Rattle.balance.proofs.added.Goals.{else-same_key-via-then-same_key+else-is_counted, else-same_key-via-else-same_key}
use Rattle.balance.proofs.added.Goals as goal

pub returns-then-is_counted : goal.returns-then-is_counted
returns-then-is_counted c =
    let start = c.args in
    let mint = rw c.mint_of.ensures at (sym c.same_key.ensures ∙ c.if-same_key.true) in
    c.capped_sum.ensures
    ∙ rw c.amount_of.ensures (sym (grows_counted _ _ _ start.total (sym c.is_counted.ensures ∙ c.if-is_counted.true) mint))

pub returns-else-same_key : goal.returns-else-same_key
returns-else-same_key c =
    let start = c.args in
    let r = record_at start.table.now start.view in
    elim c.else-same_key.branch [
      | else-same_key-via-then-same_key+else-is_counted w ↦
          sym (stays_not_counted r _ start.mint.now start.total (omega arith) (sym w.is_counted.ensures ∙ w.if-is_counted.false))
      | else-same_key-via-else-same_key w ↦
          let other = rw c.mint_of.ensures at (sym c.same_key.ensures ∙ w.if-same_key.false) in
          sym (stays_other_mint r start.vault.now _ start.total (omega arith) other)
    ]
