-- `outflow::Outflow::amounts` meets its contract. The loop's invariant: the first `i` amounts are laid.
-- Assumes nothing.
use Rattle.std.proofs.Common.{arith, min, ◌≡◌, ◌<◌, ℕ, List, length, position, refl, ap, ◌∙◌, add-one}
use Rattle.row.specs.Views.{actions_in}
use Rattle.row.proofs.Views.{length_actions}
use Rattle.key.specs.Key.{same_key}
use Rattle.keys.specs.Views.{keys_in}
use Rattle.account.specs.Views.{table_records}
use Rattle.outflow.specs.Outflow.{decrease_of, amount_from}
use Rattle.outflow.proofs.Amounts.{amount_laid, all_laid, action_at_lem, known_decrease}
use Rattle.outflow.proofs.Outflow.amounts.Goals as goal

pub amount-amount-requires : goal.amount-amount-requires
amount-amount-requires c =
    let self = c.args.self.now in
    let f = decrease_of self.vault.now (table_records self.before) (table_records self.after) in
    let ks = keys_in c.args.mints.now in
    let key = c.key_of.result.now in
    rw (← c.key_of.ensures, c.listed-known.ensures)
    (known_decrease f ks key _ c.mint_decreases-decreases.ensures (position (λ (k : List ℕ). same_key k key) ks) refl)

pub loop-i-preserved : goal.loop-i-preserved
loop-i-preserved c =
    let region = c.args.region.now in
    let views = c.args.views.now in
    let i = c.loop-i.i in
    let inside : i < length (actions_in region views) = rw (length_actions region views) (omega arith) in
    rw (add-one i, c.loop-i.invariant)
    (amount_laid _ (actions_in region views) i _ inside (omega arith) _
    (c.amount-amount.ensures ∙ ap (amount_from _ _ _ _ _) (action_at_lem region views i)))

pub returns : goal.returns
returns c =
    let region = c.args.region.now in
    let views = c.args.views.now in
    let all : c.loop-i.i ≡ min (length (actions_in region views)) 16 = rw (length_actions region views) (omega arith) in
    rw c.loop-i.invariant (all_laid _ (actions_in region views) c.loop-i.i all)
