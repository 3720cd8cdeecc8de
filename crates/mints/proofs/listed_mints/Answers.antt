-- `mints::listed_mints` meets its contract. The loop's invariant: the list with the mints of the views that are left is that of all.
-- Assumes nothing.
use mathlib.Core.Path.{◌≡◌, refl, sym, ap, ◌∙◌}
use native.Mathlib.Numerals.{add-one}
use native.Mathlib.Omega.{arith}
use lib.ListN.{get_or}
use Rattle.keys.specs.Views.{with_key}
use Rattle.action.specs.Views.{zero_action_view, action_at}
use Rattle.mints.specs.Views.{with_mint}
use Rattle.mints.proofs.Listing.{mint_kept, mint_added, mints_step, mints_end, mints_none}
use Rattle.mints.proofs.listed_mints.Goals as goal
use Rattle.mints.proofs.listed_mints.Goals.{then-is_token, else-is_token}

pub loop-view-init : goal.loop-view-init
loop-view-init c = rw c.none-mints.ensures (sym (mints_none _))

pub loop-view-preserved : goal.loop-view-preserved
unfolding action_at
loop-view-preserved c =
    let i = c.loop-view.view-index in
    let views = c.args.views.now in
    let mints = c.loop-view.mints in
    let act = action_at c.args.region.now (get_or views i zero_action_view) in
    let put : c.if-is_token.mints ≡ with_mint mints act =
    elim c.if-is_token.branch [
      | then-is_token w ↦ w.mints-is ∙ w.push.ensures ∙ ap (with_key mints) w.key_of.ensures ∙ sym (mint_added mints act (sym c.is_token.ensures ∙ w.if-is_token.true))
      | else-is_token w ↦ w.mints-is ∙ sym (mint_kept mints act (sym c.is_token.ensures ∙ w.if-is_token.false))
    ] in
    rw (add-one i, put) (sym (mints_step _ views i _ mints refl (omega arith)) ∙ c.loop-view.invariant)

pub returns : goal.returns
returns c = sym (mints_end _ c.args.views.now c.loop-view.view-index c.loop-view.mints (omega arith)) ∙ c.loop-view.invariant
