-- A region that was cut, action by action: what it was cut into is where the views say, and glued it is the region again.
-- Assumes nothing.
use mathlib.Core.Path.{◌≡◌, refl, sym, ap, ap₂, subst, ◌∙◌}
use mathlib.Core.List.{List, [], ◌∷◌, map}
use Prim.Native.Nat.{ℕ, zero, suc, ◌+◌, ◌<◌, ◌≤◌}
use native.Mathlib.Omega.{arith}
use lib.ListN.{length, drop, length-drop}
use lib.Seq.{drop-drop}
use Rattle.answer.specs.declared.Refusal.TheVariants.{ActionBufferInvalid}
use Rattle.answer.specs.declared.Refusal.{Refusal}
use Rattle.answer.specs.Refusable.{Refusable, Ok, Err, change}
use Rattle.part.proofs.Laws.{part_there}
use Rattle.action.specs.Action.{Action}
use Rattle.action.specs.Views.{data_at, action_at}
use Rattle.row.specs.Views.{actions_in}
use Rattle.region.specs.Region.{First, first, cut, most_actions}
use Rattle.region.specs.Views.{action_view_at, action_views_from}
use Rattle.region.proofs.Cutting.{IsFirst, first_is, first_refuses, cut_end, cut_full, cut_refused, cut-first}

-- `Cuts n s l`: the bytes s cut into the actions l, at most n of them
pub data Cuts : ℕ → List ℕ → List Action → Type 0 where
  none : {n : ℕ} → Cuts n [] []
  more : {n : ℕ} {s : List ℕ} {f : First} {l : List Action} → IsFirst s f → Cuts n f.rest l → Cuts (suc n) s (f.act ∷ l)

apart : {A : Type 0} {a : A} {r : Refusal} → ◌≡◌ {A = Refusable A} (Err r) (Ok a) → ⊥
apart e = let z : ◌≡◌ {A = ℕ} 0 1 = cc in omega arith

with_rest : (n : ℕ) (s : List ℕ) (f : First) (l : List Action) → IsFirst s f
    → ((rest : List ℕ) (k : List Action) → cut n rest ≡ Ok k → Cuts n rest k)
    → (x : Refusable (List Action)) → cut n f.rest ≡ x → change (λ (k : List Action). f.act ∷ k) x ≡ Ok l → Cuts (suc n) s l
with_rest n s f l facts rec (Ok k) e h = subst (λ (m : List Action). Cuts (suc n) s m) (let same : f.act ∷ k ≡ l = cc in same) (more facts (rec f.rest k e))
with_rest n s f l facts rec (Err r) e h = absurd (apart h)

with_first : (n : ℕ) (s : List ℕ) (l : List Action) → 0 < length s → cut (suc n) s ≡ Ok l
    → ((rest : List ℕ) (k : List Action) → cut n rest ≡ Ok k → Cuts n rest k)
    → (x : Refusable First) → first s ≡ x → Cuts (suc n) s l
with_first n s l some e rec (Ok f) q =
    with_rest n s f l (first_is s f q) rec (cut n f.rest) refl (sym (cut-first n s some q) ∙ e)
with_first n s l some e rec (Err r) q = absurd (apart (sym (cut_refused n s some q) ∙ e))

pub cut_cuts : (n : ℕ) (s : List ℕ) (l : List Action) → cut n s ≡ Ok l → Cuts n s l
cut_cuts zero [] l e = subst (λ (m : List Action). Cuts zero [] m) (let q = cut_end zero [] (omega arith) in cc) none
cut_cuts zero (b ∷ s) l e = absurd (apart (sym (cut_full (b ∷ s) (omega arith)) ∙ e))
cut_cuts (suc n) [] l e = subst (λ (m : List Action). Cuts (suc n) [] m) (let q = cut_end (suc n) [] (omega arith) in cc) none
cut_cuts (suc n) (b ∷ s) l e = with_first n (b ∷ s) l (omega arith) e (λ rest k q. cut_cuts n rest k q) (first (b ∷ s)) refl

rest_refused : (n : ℕ) (f : First) (r : Refusal) → ((rest : List ℕ) (q : Refusal) → cut n rest ≡ Err q → q ≡ ActionBufferInvalid)
    → (x : Refusable (List Action)) → cut n f.rest ≡ x → change (λ (k : List Action). f.act ∷ k) x ≡ Err r → r ≡ ActionBufferInvalid
rest_refused n f r rec (Ok k) e h = absurd (apart (sym h))
rest_refused n f r rec (Err q) e h = let same : q ≡ r = cc in sym same ∙ rec f.rest q e

refusal_of_lem : (n : ℕ) (s : List ℕ) (r : Refusal) → 0 < length s → cut (suc n) s ≡ Err r
    → ((rest : List ℕ) (q : Refusal) → cut n rest ≡ Err q → q ≡ ActionBufferInvalid)
    → (x : Refusable First) → first s ≡ x → r ≡ ActionBufferInvalid
refusal_of_lem n s r some e rec (Ok f) q = rest_refused n f r rec (cut n f.rest) refl (sym (cut-first n s some q) ∙ e)
refusal_of_lem n s r some e rec (Err p) q =
    let same : p ≡ r = let stopped = cut_refused n s some q in cc in
    sym same ∙ first_refuses s p q

-- a refusal of cutting is the one of a bad region at creation
pub cut_refuses : (n : ℕ) (s : List ℕ) (r : Refusal) → cut n s ≡ Err r → r ≡ ActionBufferInvalid
cut_refuses zero [] r e = absurd (apart (sym e ∙ cut_end zero [] (omega arith)))
cut_refuses zero (b ∷ s) r e = let q = cut_full (b ∷ s) (omega arith) in cc
cut_refuses (suc n) [] r e = absurd (apart (sym e ∙ cut_end (suc n) [] (omega arith)))
cut_refuses (suc n) (b ∷ s) r e = refusal_of_lem n (b ∷ s) r (omega arith) e (λ rest q h. cut_refuses n rest q h) (first (b ∷ s)) refl

-- ---- where the actions lie

pub cut_at_most : {n : ℕ} {s : List ℕ} {l : List Action} → Cuts n s l → length l ≤ n
cut_at_most none = omega arith
cut_at_most (more facts cuts) = omega (arith, cut_at_most cuts)

act_there : (s : List ℕ) (place : ℕ) (f : First) → place ≤ length s → IsFirst (drop place s) f → action_at s (action_view_at place f.act) ≡ f.act
unfolding action_at action_view_at
act_there s place f h facts =
    let inside = rw (length-drop place s) at facts.within in
    let there = part_there s (place + 11) (length f.act.payload) (omega arith) in
    let payload : data_at s (action_view_at place f.act) ≡ f.act.payload = there ∙ rw (← (drop-drop 11 place s)) (sym facts.payload_is) in
    ap (λ (b : List ℕ). record { kind = f.act.kind; expires = f.act.expires; payload = b }) payload

pub views_name : (s : List ℕ) {n : ℕ} {rest : List ℕ} {l : List Action} → Cuts n rest l → (place : ℕ) → place ≤ length s → rest ≡ drop place s
    → map (action_at s) (action_views_from place l) ≡ l
unfolding action_views_from
views_name s none place h e = refl
views_name s (more {f = f} facts cuts) place h e =
    let here = subst (λ (x : List ℕ). IsFirst x f) e facts in
    let inside = rw (length-drop place s) at here.within in
    let next : place + (11 + length f.act.payload) ≡ place + 11 + length f.act.payload = omega arith in
    let after : f.rest ≡ drop (place + 11 + length f.act.payload) s = here.rest_is ∙ drop-drop (11 + length f.act.payload) place s ∙ ap (λ (k : ℕ). drop k s) next in
    ap₂ (λ (a : Action) (k : List Action). a ∷ k) (act_there s place f h here) (views_name s cuts (place + 11 + length f.act.payload) (omega arith) after)

-- the views of what a region was cut into name the actions that were cut
pub actions_of_views : (s : List ℕ) (l : List Action) → cut most_actions s ≡ Ok l → actions_in s (action_views_from 0 l) ≡ l
unfolding actions_in
actions_of_views s l e = views_name s (cut_cuts most_actions s l e) 0 (omega arith) refl
