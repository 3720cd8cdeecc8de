-- `balance::balance` meets its contract: the fold over the records is their capped sum.
-- Assumes nothing.
use Rattle.std.proofs.Common.{rules, ℕ, ◌∙◌}
use native.Mathlib.Omega.{arith}
use Rattle.std.proofs.lemmas.Grind.{common_steps}
use Rattle.std.proofs.lemmas.Iterator.{YieldsList-from_slice}
use Rattle.std.proofs.lemmas.Iterator.Consumers.{fold_from_yields_List}
use Rattle.number.specs.Number.{capped_sum}
use Rattle.account.specs.declared.RecordView.{RecordView}
use Rattle.account.specs.Views.{record_at}
use Rattle.balance.specs.Balance.{share}
use Rattle.balance.proofs.Adding.{balance_fold}
use Rattle.balance.proofs.balance.Goals as goal

pub returns : goal.returns
returns c =
    let table = c.args.table in
    fold_from_yields_List _ (λ (t : ℕ) (v : RecordView). capped_sum t (share c.args.vault.now c.args.mint.now (record_at table.bytes.now v))) _ _
    c.fold.ensures.ran (YieldsList-from_slice table.records.now (search rules)) (λ a x b q h. grind (arith, common_steps))
    ∙ balance_fold c.args.vault.now c.args.mint.now table.bytes.now table.records.now
