-- `balance::balances` meets its contract. The loop's invariant: the totals over the records so far.
-- Assumes nothing.
use Rattle.std.proofs.Common.{arith, ◌∙◌, add-one}
use lib.Seq.{take_all}
use Rattle.account.specs.Views.{records_in}
use Rattle.keys.specs.Views.{keys_in}
use Rattle.balance.specs.Views.{sums_of}
use Rattle.balance.proofs.Totals.{none_laid, laid_next}
use Rattle.balance.proofs.balances.Goals as goal

pub returns-then-mints-eq0 : goal.returns-then-mints-eq0
unfolding keys_in sums_of
returns-then-mints-eq0 c = rw c.if-mints-eq0.true

pub loop-view-init : goal.loop-view-init
unfolding records_in
loop-view-init c = none_laid c.args.vault.now (keys_in c.args.mints.now)

pub loop-view-preserved : goal.loop-view-preserved
loop-view-preserved c =
    let i = c.loop-view.view-index in
    c.add_record.ensures
    ∙ rw (add-one i, c.loop-view.invariant) (laid_next c.args.vault.now c.args.table.bytes.now (keys_in c.args.mints.now) c.args.table.records.now i _ (omega arith))

pub returns : goal.returns
unfolding sums_of
returns c =
    let views = c.args.table.records.now in
    let all = take_all c.loop-view.view-index views (omega arith) in
    rw (c.loop-view.invariant, all)
