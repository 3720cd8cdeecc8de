-- `balance::add_record` meets its contract. The loop's invariant: the totals of the first `j` mints have the record.
-- Assumes nothing.
use Rattle.std.proofs.Common.{arith, [], ◌<◌, ◌≤◌, ◌≡◌, length, get_or, refl, sym, ◌∙◌, add-one}
use lib.Seq.{take_all}
use lib.ListN.{length-map, get_or-map}
use Rattle.account.specs.Views.{record_at}
use Rattle.key.specs.Key.{same_key}
use Rattle.key.specs.declared.Key.{Key}
use Rattle.keys.specs.Views.{keys_in}
use Rattle.keys.proofs.Laws.{counted_keys}
use Rattle.token.specs.Tokens.{mint_of}
use Rattle.balance.specs.Views.{with_record}
use Rattle.balance.proofs.Totals.{with_none, with_same, with_more}
use Rattle.balance.proofs.add_record.Goals.{then-is, else-is}
use Rattle.balance.proofs.add_record.Goals as goal

pub returns-then-not-is_counted : goal.returns-then-not-is_counted
returns-then-not-is_counted c =
    sym (with_none _ _ (sym c.is_counted.ensures ∙ c.if-not-is_counted.true) (keys_in c.args.mints.now) c.args.totals.now (λ i. omega (arith, c.fits-totals i)))

pub loop-j-init : goal.loop-j-init
unfolding with_record
loop-j-init c = (c.told-totals, refl)

pub bounds-totals-j : goal.bounds-totals-j
bounds-totals-j c = omega (arith, c.as_slice-key-items.ensures.few)

pub bounds-totals-j-then-is : goal.bounds-totals-j-then-is
bounds-totals-j-then-is c = omega (arith, c.as_slice-key-items.ensures.few)

pub loop-j-preserved : goal.loop-j-preserved
loop-j-preserved c =
    let mints = c.args.mints.now in
    let ks = keys_in mints in
    let j = c.loop-j.j in
    let r = record_at c.args.table.now c.args.view in
    let counted = c.as_slice-key-items.ensures.counted in
    let is_counted_lem = sym c.is_counted.ensures ∙ c.if-not-is_counted.false in
    let inside : j < length ks = rw (← (counted_keys mints), ← counted, length-map) (omega arith) in
    let room : j < length c.args.totals.now = omega (arith, c.told-totals, c.as_slice-key-items.ensures.few) in
    let keys = c.as_slice-key-items.result.now in
    let this : get_or ks j [] ≡ (get_or keys j (record { bytes = [] })).bytes =
    rw (← (counted_keys mints), ← counted) (get_or-map (λ (k : Key). k.bytes) keys j (record { bytes = [] })) in
    let same : same_key (get_or ks j []) (mint_of r) ≡ c.is.result = rw (this, ← c.mint_of-mint.ensures) (sym c.is.ensures) in
    elim c.if-is.branch [
      | then-is w ↦ (
        c.if-is.array_long,
        w.totals-is ∙ rw (w.capped_sum.ensures, c.amount_of-amount.ensures, add-one j)
            (with_more _ r is_counted_lem ks _ j [] inside room (same ∙ w.if-is.true) _ c.loop-j.invariant.1),
      )
      | else-is w ↦ (
        c.if-is.array_long,
        w.totals-is ∙ rw (add-one j)
            (with_same _ r is_counted_lem ks _ j [] inside room (same ∙ w.if-is.false) _ c.loop-j.invariant.1 (omega (arith, c.fits-totals j))),
      )
    ]

pub returns : goal.returns
returns c =
    let ks = keys_in c.args.mints.now in
    let counted = c.as_slice-key-items.ensures.counted in
    let all : length ks ≤ c.loop-j.j = rw (← (counted_keys c.args.mints.now), ← counted, length-map) (omega arith) in
    c.loop-j.invariant.1 ∙ rw (take_all c.loop-j.j ks all)
