-- Laws of cutting: when the first action is there, and what the header at a place answers.
-- Assumes nothing.
use mathlib.Core.Path.{◌≡◌, refl, sym, ◌∙◌, subst}
use mathlib.Core.Bool.{Bool, true, false, cond, ◌&&◌, and-false, and-eq-true_iff}
use mathlib.Core.List.{List, [], ◌∷◌}
use Prim.Native.Nat.{ℕ, zero, suc, ◌+◌, ◌<◌, ◌≤◌}
use native.Mathlib.Nat.{add-zero, not-suc-le-zero}
use native.Mathlib.Omega.{arith}
use borrow.Author.Tests.{le-leb, lt-leb, lt-ltb, le-ltb, leb-true, ltb-true}
use lib.Dec.{leb, ltb}
use lib.ListN.{length, get_or, take, drop, length-take, length-drop}
use lib.Seq.{drop-drop, get_or-drop, length-take-le}
use Rattle.answer.specs.declared.Refusal.TheVariants.{ActionBufferInvalid}
use Rattle.answer.specs.declared.Refusal.{Refusal}
use Rattle.answer.specs.Refusable.{Refusable, Ok, Err, change}
use Rattle.number.specs.Number.{number, number_at}
use Rattle.number.proofs.Laws.{number_there}
use Rattle.action.specs.declared.ActionView.{ActionView}
use Rattle.action.specs.Action.{Action, data_length}
use Rattle.region.specs.Region.{First, header_data_length, first, cut}
use Rattle.region.specs.Views.{action_view_at, header_at}

-- what is given where the header is whole, the type known and the data all there
abbrev pub first_of : List ℕ → First
first_of s = record {
  act = record { kind = get_or s 0 0; expires = number (take 8 (drop 3 s)); payload = take (header_data_length s) (drop 11 s) };
  rest = drop (11 + header_data_length s) s;
}

-- its test
abbrev whole_first : List ℕ → Bool
whole_first s = leb 11 (length s) && ltb 0 (data_length (get_or s 0 0)) && leb (11 + header_data_length s) (length s)

pub first_given : (s : List ℕ) → 11 ≤ length s → 0 < data_length (get_or s 0 0) → 11 + header_data_length s ≤ length s → first s ≡ Ok (first_of s)
unfolding first
first_given s long known there = rw (le-leb _ _ long, lt-ltb _ _ known, le-leb _ _ there)

first_short : (s : List ℕ) → length s < 11 → first s ≡ Err ActionBufferInvalid
unfolding first
first_short s short = rw (lt-leb _ _ short)

first_unknown : (s : List ℕ) → data_length (get_or s 0 0) ≤ 0 → first s ≡ Err ActionBufferInvalid
unfolding first
first_unknown s unknown = rw (le-ltb _ _ unknown, and-false)

first_past : (s : List ℕ) → length s < 11 + header_data_length s → first s ≡ Err ActionBufferInvalid
unfolding first
first_past s past = rw (lt-leb _ _ past, and-false)

-- ---- the header at a place

module _ (s : List ℕ) (at : ℕ) where
  header_refused : {r : Refusal} → first (drop at s) ≡ Err r → header_at s at ≡ Err r
  unfolding header_at
  header_refused e = rw (e, header_at)

  header_given : {f : First} → first (drop at s) ≡ Ok f → header_at s at ≡ Ok (action_view_at at f.act)
  unfolding header_at
  header_given e = rw (e, header_at)

  -- the numbers of a header, read at their places
  stated_at : at + 3 ≤ length s → header_data_length (drop at s) ≡ number_at 2 s (at + 1)
  unfolding header_data_length
  stated_at h = rw (drop-drop 1 at s) (sym (number_there 2 s (at + 1) (omega arith)))

  expires_at : at + 11 ≤ length s → number (take 8 (drop 3 (drop at s))) ≡ number_at 8 s (at + 3)
  expires_at h = rw (drop-drop 3 at s) (sym (number_there 8 s (at + 3) (omega arith)))

  kind_at : get_or (drop at s) 0 0 ≡ get_or s at 0
  kind_at = rw (get_or-drop at s 0 0, add-zero at)

  pub no_header_short : length s < at + 11 → header_at s at ≡ Err ActionBufferInvalid
  no_header_short h = header_refused (first_short (drop at s) (simp length-drop (omega arith)))

  pub no_header_unknown : data_length (get_or s at 0) ≡ 0 → header_at s at ≡ Err ActionBufferInvalid
  no_header_unknown h =
      let none : data_length (get_or (drop at s) 0 0) ≤ 0 = rw kind_at (omega arith) in
      header_refused (first_unknown (drop at s) none)

  module _ (long : at + 11 ≤ length s) where
    pub no_header_past : length s < at + 11 + number_at 2 s (at + 1) → header_at s at ≡ Err ActionBufferInvalid
    no_header_past h =
        let past : length (drop at s) < 11 + header_data_length (drop at s) = rw (length-drop at s, stated_at (omega arith)) (omega arith) in
        header_refused (first_past (drop at s) past)

    pub header_there : (data_length (get_or s at 0) ≡ 0 → ⊥) → at + 11 + number_at 2 s (at + 1) ≤ length s
        → header_at s at
        ≡ Ok (record { kind = get_or s at 0; expires = number_at 8 s (at + 3); at = at + 11; len = number_at 2 s (at + 1) })
    unfolding action_view_at
    header_there known h =
        let whole : 11 ≤ length (drop at s) = rw (length-drop at s) (omega arith) in
        let listed : 0 < data_length (get_or (drop at s) 0 0) = rw kind_at (omega arith) in
        let there : 11 + header_data_length (drop at s) ≤ length (drop at s) = rw (length-drop at s, stated_at (omega arith)) (omega arith) in
        let exact : length (take (header_data_length (drop at s)) (drop 11 (drop at s))) ≡ number_at 2 s (at + 1) = rw (length-take, length-drop 11 (drop at s), length-drop at s, stated_at (omega arith)) (omega arith) in
        header_given (first_given (drop at s) whole listed there) ∙ rw (kind_at, expires_at long, exact)

-- ---- what a first action is

-- what is known of the first action of some bytes and of the bytes after it
pub record IsFirst (s : List ℕ) (f : First) : Type 0 where
  pub known : 0 < data_length f.act.kind
  pub within : 11 + length f.act.payload ≤ length s
  pub kind_is : f.act.kind ≡ get_or s 0 0
  pub expires_is : f.act.expires ≡ number (take 8 (drop 3 s))
  pub length_is : length f.act.payload ≡ header_data_length s
  pub payload_is : f.act.payload ≡ take (length f.act.payload) (drop 11 s)
  pub rest_is : f.rest ≡ drop (11 + length f.act.payload) s

first_is_of : (s : List ℕ) → 11 ≤ length s → 0 < data_length (get_or s 0 0) → 11 + header_data_length s ≤ length s → IsFirst s (first_of s)
first_is_of s long listed there =
    let exact : length (take (header_data_length s) (drop 11 s)) ≡ header_data_length s = length-take-le (header_data_length s) (drop 11 s) (simp length-drop (omega arith)) in
    record {
      known = listed;
      within = rw exact there;
      kind_is = refl;
      expires_is = refl;
      length_is = exact;
      payload_is = rw exact;
      rest_is = rw exact;
    }

chosen : (t : Bool) (g f : First) (r : Refusal) → cond t (Ok g) (Err r) ≡ Ok f → (t ≡ true) × (g ≡ f)
chosen true g f r e = (refl, cc)
chosen false g f r e = absurd (let z : ◌≡◌ {A = ℕ} 0 1 = cc in omega arith)

refused_with : (t : Bool) (g : First) (q r : Refusal) → cond t (Ok g) (Err q) ≡ Err r → r ≡ q
refused_with true g q r e = absurd (let z : ◌≡◌ {A = ℕ} 0 1 = cc in omega arith)
refused_with false g q r e = cc

pub first_refuses : (s : List ℕ) (r : Refusal) → first s ≡ Err r → r ≡ ActionBufferInvalid
unfolding first
first_refuses s r e = refused_with (whole_first s) (first_of s) ActionBufferInvalid r e

pub first_is : (s : List ℕ) (f : First) → first s ≡ Ok f → IsFirst s f
unfolding first
first_is s f e =
    let (t, g) = chosen (whole_first s) (first_of s) f ActionBufferInvalid e in
    let (tt', there) = (and-eq-true_iff _ _).0 t in
    let (long, listed) = (and-eq-true_iff _ _).0 tt' in
    subst (λ (x : First). IsFirst s x) g (first_is_of s (leb-true _ _ long) (ltb-true _ _ listed) (leb-true _ _ there))

-- ---- cutting, an action at a time

pub cut_end : (n : ℕ) (s : List ℕ) → length s ≤ 0 → cut n s ≡ Ok []
unfolding cut
cut_end zero [] h = refl
cut_end (suc n) [] h = refl
cut_end n (b ∷ s) h = absurd (not-suc-le-zero h)

pub cut_full : (s : List ℕ) → 0 < length s → cut 0 s ≡ Err ActionBufferInvalid
unfolding cut
cut_full [] h = absurd (not-suc-le-zero h)
cut_full (b ∷ s) h = refl

pub cut_refused : (n : ℕ) (s : List ℕ) {r : Refusal} → 0 < length s → first s ≡ Err r → cut (suc n) s ≡ Err r
unfolding cut
cut_refused n [] h e = absurd (not-suc-le-zero h)
cut_refused n (b ∷ s) h e = rw (e, cut)

pub cut-first : (n : ℕ) (s : List ℕ) {f : First} → 0 < length s → first s ≡ Ok f
    → cut (suc n) s ≡ change (λ (l : List Action). f.act ∷ l) (cut n f.rest)
unfolding cut
cut-first n [] h e = absurd (not-suc-le-zero h)
cut-first n (b ∷ s) h e = rw (e, cut)

-- ---- what a header's answer says of the first action

module _ (s : List ℕ) (at : ℕ) where
  pub view_first : (v : ActionView) → header_at s at ≡ Ok v → (f : First) × (first (drop at s) ≡ Ok f) × (action_view_at at f.act ≡ v)
  view_first v h = go (first (drop at s)) refl
    where
      go : (x : Refusable First) → first (drop at s) ≡ x → (f : First) × (first (drop at s) ≡ Ok f) × (action_view_at at f.act ≡ v)
      go (Ok f) e = let same = header_given s at e in (f, e, cc)
      go (Err r) e = let same = header_refused s at e in absurd (let z : ◌≡◌ {A = ℕ} 0 1 = cc in omega arith)

  pub refused_first : (r : Refusal) → header_at s at ≡ Err r → first (drop at s) ≡ Err r
  refused_first r h = go (first (drop at s)) refl
    where
      go : (x : Refusable First) → first (drop at s) ≡ x → first (drop at s) ≡ Err r
      go (Ok f) e = let same = header_given s at e in absurd (let z : ◌≡◌ {A = ℕ} 0 1 = cc in omega arith)
      go (Err q) e = let same = header_refused s at e in cc
