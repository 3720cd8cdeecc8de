-- Settling a glued row of actions where they lie is gluing the settled actions.
-- Assumes nothing.
use mathlib.Core.Path.{◌≡◌, refl, sym, ap, ap₂, ◌∙◌}
use mathlib.Core.List.{List, [], ◌∷◌, ◌++◌, map, append_assoc, append-nil}
use Prim.Native.Nat.{ℕ, ◌+◌, ◌≤◌}
use native.Mathlib.Omega.{arith}
use lib.ListN.{length, length-append}
use Rattle.action.specs.Action.{Action}
use Rattle.action.specs.Views.{action_at, written_at}
use Rattle.change.proofs.Changing.{changed_kind, changed_expires, changed-length}
use Rattle.region.specs.Region.{glue_one, glue}
use Rattle.region.specs.Views.{action_view_at, action_views_from}
use Rattle.region.proofs.Gluing.{glue-append, length-glue_one, glued_action, glued_written}
use Rattle.limit.specs.Limit.{Charge, change_of, settled}
use Rattle.charge.specs.Views.{charges, settled_at}

module _ (slot : ℕ) (c : Charge) where
  pub settled_kind : (settled slot c).kind ≡ c.act.kind
  unfolding settled
  settled_kind = changed_kind (change_of slot c) c.act

  pub settled_expires : (settled slot c).expires ≡ c.act.expires
  unfolding settled
  settled_expires = changed_expires (change_of slot c) c.act

  pub settled-length : length (settled slot c).payload ≡ length c.act.payload
  unfolding settled
  settled-length = changed-length (change_of slot c) c.act

glue-one : (a : Action) → glue (a ∷ []) ≡ glue_one a
unfolding glue
glue-one a = append-nil (glue_one a)

length_glue_one : (done : List Action) (a : Action) → length (glue (done ++ (a ∷ []))) ≡ length (glue done) + 11 + length a.payload
length_glue_one done a =
    let one : length (glue (a ∷ [])) ≡ 11 + length a.payload = ap length (glue-one a) ∙ length-glue_one a in
    ap length (glue-append done (a ∷ [])) ∙ length-append (glue done) (glue (a ∷ [])) ∙ rw one (omega arith)

-- settling the views of a glued row, from the first on
settle_from : (slot : ℕ) (l : List Action) (xs : List ℕ) (done : List Action) → length l ≤ length xs
    → settled_at slot (action_views_from (length (glue done)) l) xs (glue (done ++ l)) ≡ glue (done ++ map (settled slot) (charges l xs))
unfolding settled_at action_views_from charges
settle_from slot [] xs done h = refl
settle_from slot (a ∷ l) [] done h = absurd (let z : ◌≡◌ {A = ℕ} 0 1 = omega arith in omega arith)
settle_from slot (a ∷ l) (x ∷ xs) done h =
    let c : Charge = record { act = a; amount = x } in
    let b = settled slot c in
    let s = glue (done ++ (a ∷ l)) in
    let v = action_view_at (length (glue done)) a in
    let named : action_at s v ≡ a = glued_action done a l in
    let wrote : written_at s v (settled slot (record { act = action_at s v; amount = x })) ≡ glue ((done ++ (b ∷ [])) ++ l) =
    ap (λ (k : Action). written_at s v (settled slot (record { act = k; amount = x }))) named
    ∙ glued_written done a l b (settled_kind slot c) (settled_expires slot c) (settled-length slot c)
    ∙ ap glue (sym (append_assoc done (b ∷ []) l)) in
    let next : length (glue done) + 11 + length a.payload ≡ length (glue (done ++ (b ∷ []))) =
    ap (λ (n : ℕ). length (glue done) + 11 + n) (sym (settled-length slot c)) ∙ sym (length_glue_one done b) in
    ap₂ (λ (place : ℕ) (r : List ℕ). settled_at slot (action_views_from place l) xs r) next wrote
    ∙ settle_from slot l xs (done ++ (b ∷ [])) (omega arith)
    ∙ ap glue (append_assoc done (b ∷ []) (map (settled slot) (charges l xs)))

-- settling a region where its actions lie is gluing the settled actions
pub settle_glued : (slot : ℕ) (l : List Action) (amounts : List ℕ) → length l ≤ length amounts
    → settled_at slot (action_views_from 0 l) amounts (glue l) ≡ glue (map (settled slot) (charges l amounts))
unfolding glue
settle_glued slot l amounts h = settle_from slot l amounts [] h
