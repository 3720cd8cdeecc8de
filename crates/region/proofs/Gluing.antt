-- Cutting and gluing undo each other; an action among others that are glued; what regular actions glue to.
-- Assumes nothing.
use mathlib.Core.Path.{◌≡◌, refl, sym, ap, ap₂, subst, ◌∙◌}
use mathlib.Core.List.{List, [], ◌∷◌, ◌++◌, append_assoc}
use Prim.Native.Nat.{ℕ, zero, suc, ◌+◌, ◌^◌, ◌<◌, ◌≤◌}
use native.Mathlib.Omega.{arith}
use borrow.Author.Tests.{le-leb}
use lib.ListN.{length, get_or, take, drop, length-append, length-drop, take-append-drop}
use lib.Seq.{drop-drop, drop-cons, take_at, drop_at, length-take-le}
use Rattle.answer.specs.Each.{Each}
use Rattle.answer.proofs.Each.{each_so}
use Rattle.answer.specs.Refusable.{Ok}
use Rattle.number.specs.Number.{number, bytes_of, Bytes}
use Rattle.number.proofs.Laws.{bytes_of-number, number-bytes_of, length-bytes_of, bytes_take, bytes_drop, bytes_append, bytes_of_bytes}
use Rattle.part.specs.Part.{part_at}
use Rattle.part.proofs.Laws.{part_between}
use Rattle.action.specs.Action.{Action, data_length}
use Rattle.action.specs.Views.{data_at, action_at, written_at}
use Rattle.action.proofs.Regular.{Regular}
use Rattle.action.proofs.Lengths.{known_code, data_at_most}
use Rattle.region.specs.Region.{First, first, cut, glue_one, glue, header_data_length}
use Rattle.region.specs.Views.{action_view_at}
use Rattle.region.proofs.Cutting.{IsFirst, first_given, cut_end, cut-first}
use Rattle.region.proofs.Cuts.{Cuts, none, more}

-- the bytes at some place are their number's bytes
stated : (width at : ℕ) (s : List ℕ) → Bytes s → at + width ≤ length s → bytes_of width (number (take width (drop at s))) ≡ take width (drop at s)
stated width at s bytes h =
    let part = take width (drop at s) in
    let long : length part ≡ width = length-take-le width (drop at s) (simp length-drop (omega arith)) in
    ap (λ (w : ℕ). bytes_of w (number part)) (sym long) ∙ bytes_of-number part (bytes_take width (drop at s) (bytes_drop at s bytes))

regroup : (a b c r : List ℕ) → a ++ b ++ c ++ r ≡ a ++ (b ++ (c ++ r))
regroup a b c r = simp append_assoc

-- the first action's bytes, and those after it, are all the bytes
glue-first : (s : List ℕ) (f : First) → IsFirst s f → Bytes s → glue_one f.act ++ f.rest ≡ s
unfolding glue_one header_data_length
glue-first s f facts bytes =
    let len = length f.act.payload in
    let inside = facts.within in
    let size : bytes_of 2 len ≡ take 2 (drop 1 s) = ap (bytes_of 2) facts.length_is ∙ stated 2 1 s bytes (omega arith) in
    let expiry : bytes_of 8 f.act.expires ≡ take 8 (drop 3 s) = ap (bytes_of 8) facts.expires_is ∙ stated 8 3 s bytes (omega arith) in
    let d1 : drop 1 s ≡ take 2 (drop 1 s) ++ drop 3 s = sym (take-append-drop 2 (drop 1 s)) ∙ ap (λ (r : List ℕ). take 2 (drop 1 s) ++ r) (drop-drop 2 1 s) in
    let d3 : drop 3 s ≡ take 8 (drop 3 s) ++ drop 11 s = sym (take-append-drop 8 (drop 3 s)) ∙ ap (λ (r : List ℕ). take 8 (drop 3 s) ++ r) (drop-drop 8 3 s) in
    let d11 : drop 11 s ≡ take len (drop 11 s) ++ drop (11 + len) s = sym (take-append-drop len (drop 11 s)) ∙ ap (λ (r : List ℕ). take len (drop 11 s) ++ r) (drop-drop len 11 s) in
    let from11 : f.act.payload ++ f.rest ≡ drop 11 s = ap₂ (λ (p q : List ℕ). p ++ q) facts.payload_is facts.rest_is ∙ sym d11 in
    let from3 : bytes_of 8 f.act.expires ++ (f.act.payload ++ f.rest) ≡ drop 3 s = ap₂ (λ (p q : List ℕ). p ++ q) expiry from11 ∙ sym d3 in
    let from1 : bytes_of 2 len ++ (bytes_of 8 f.act.expires ++ (f.act.payload ++ f.rest)) ≡ drop 1 s = ap₂ (λ (p q : List ℕ). p ++ q) size from3 ∙ sym d1 in
    ap₂ (λ (k : ℕ) (r : List ℕ). k ∷ r) facts.kind_is (regroup (bytes_of 2 len) (bytes_of 8 f.act.expires) f.act.payload f.rest ∙ from1)
    ∙ sym (drop-cons s 0 0 (omega arith))

-- what was cut glues to the region again
pub glue-cut : {n : ℕ} {s : List ℕ} {l : List Action} → Cuts n s l → Bytes s → glue l ≡ s
unfolding glue
glue-cut none bytes = refl
glue-cut {s = s} (more {f = f} facts cuts) bytes =
    let rest : Bytes f.rest = subst Bytes (sym facts.rest_is) (bytes_drop (11 + length f.act.payload) s bytes) in
    ap (λ (r : List ℕ). glue_one f.act ++ r) (glue-cut cuts rest) ∙ glue-first s f facts bytes

-- ---- what was glued cuts to the actions again

-- an action that its header can state
pub record Fits (a : Action) : Type 0 where
  pub known : 0 < data_length a.kind
  pub short : length a.payload < 256 ^ 2
  pub soon : a.expires < 256 ^ 8

pub length-glue_one : (a : Action) → length (glue_one a) ≡ 11 + length a.payload
unfolding glue_one
length-glue_one a = simp (length-append, length-bytes_of) (omega arith)

-- the parts of some bytes that begin as an action's do
module _ (a : Action) (r s : List ℕ) (is : s ≡ a.kind ∷ bytes_of 2 (length a.payload) ++ (bytes_of 8 a.expires ++ (a.payload ++ r))) where
  kind_glued : get_or s 0 0 ≡ a.kind
  kind_glued = rw is

  from_length : drop 1 s ≡ bytes_of 2 (length a.payload) ++ (bytes_of 8 a.expires ++ (a.payload ++ r))
  from_length = ap (drop 1) is

  from_expiry : drop 3 s ≡ bytes_of 8 a.expires ++ (a.payload ++ r)
  from_expiry = sym (drop-drop 2 1 s) ∙ ap (drop 2) from_length ∙ drop_at (bytes_of 2 (length a.payload)) _ 2 (length-bytes_of 2 _)

  from_payload : drop 11 s ≡ a.payload ++ r
  from_payload = sym (drop-drop 8 3 s) ∙ ap (drop 8) from_expiry ∙ drop_at (bytes_of 8 a.expires) _ 8 (length-bytes_of 8 _)

  length_stated : length a.payload < 256 ^ 2 → header_data_length s ≡ length a.payload
  unfolding header_data_length
  length_stated short =
      ap (λ (x : List ℕ). number (take 2 x)) from_length ∙ ap number (take_at (bytes_of 2 (length a.payload)) _ 2 (length-bytes_of 2 _)) ∙ number-bytes_of 2 _ short

  expires_stated : a.expires < 256 ^ 8 → number (take 8 (drop 3 s)) ≡ a.expires
  expires_stated soon =
      ap (λ (x : List ℕ). number (take 8 x)) from_expiry ∙ ap number (take_at (bytes_of 8 a.expires) _ 8 (length-bytes_of 8 _)) ∙ number-bytes_of 8 _ soon

  payload_glued : take (length a.payload) (drop 11 s) ≡ a.payload
  payload_glued = ap (take (length a.payload)) from_payload ∙ take_at a.payload r _ refl

  rest_glued : drop (11 + length a.payload) s ≡ r
  rest_glued = sym (drop-drop (length a.payload) 11 s) ∙ ap (drop (length a.payload)) from_payload ∙ drop_at a.payload r _ refl

pub first_glued : (a : Action) (r : List ℕ) → Fits a → first (glue_one a ++ r) ≡ Ok (record { act = a; rest = r })
first_glued a r fits =
    let s = glue_one a ++ r in
    let is : s ≡ a.kind ∷ bytes_of 2 (length a.payload) ++ (bytes_of 8 a.expires ++ (a.payload ++ r)) =
    unfold glue_one in ap (λ (x : List ℕ). a.kind ∷ x) (regroup (bytes_of 2 (length a.payload)) (bytes_of 8 a.expires) a.payload r) in
    let long : length s ≡ 11 + length a.payload + length r = length-append (glue_one a) r ∙ ap (λ (n : ℕ). n + length r) (length-glue_one a) in
    let size = length_stated a r s is fits.short in
    let listed : 0 < data_length (get_or s 0 0) = rw (kind_glued a r s is) fits.known in
    first_given s (omega arith) listed (rw size (omega arith))
    ∙ rw (size, kind_glued a r s is, expires_stated a r s is fits.soon, payload_glued a r s is, rest_glued a r s is)

-- what was glued, at most n actions, cuts to them
pub cut-glue : (n : ℕ) (l : List Action) → Each Fits l → length l ≤ n → cut n (glue l) ≡ Ok l
unfolding glue
cut-glue n [] fit h = cut_end n [] (omega arith)
cut-glue zero (a ∷ l) fit h = absurd (let z : ◌≡◌ {A = ℕ} 0 1 = omega arith in omega arith)
cut-glue (suc n) (a ∷ l) fit h =
    let some : 0 < length (glue_one a ++ glue l) = rw (length-append (glue_one a) (glue l), length-glue_one a) (omega arith) in
    cut-first n (glue_one a ++ glue l) some (first_glued a (glue l) fit.0) ∙ rw (cut-glue n l fit.1 (omega arith))

-- ---- an action among others

pub glue-append : (l m : List Action) → glue (l ++ m) ≡ glue l ++ glue m
unfolding glue
glue-append [] m = refl
glue-append (a ∷ l) m = ap (λ (r : List ℕ). glue_one a ++ r) (glue-append l m) ∙ sym (append_assoc (glue_one a) (glue l) (glue m))

-- the header of an action
header_of : Action → List ℕ
header_of a = a.kind ∷ bytes_of 2 (length a.payload) ++ bytes_of 8 a.expires

length_header : (a : Action) → length (header_of a) ≡ 11
unfolding header_of
length_header a = simp (length-append, length-bytes_of)

-- what stands before an action's data in a glued row, the data, and what stands after it
around : (l : List Action) (a : Action) (m : List Action) → glue (l ++ (a ∷ m)) ≡ (glue l ++ header_of a) ++ (a.payload ++ glue m)
unfolding glue glue_one header_of
around l a m = glue-append l (a ∷ m) ∙ simp append_assoc

module _ (l : List Action) (a : Action) (m : List Action) where
  before_data : length (glue l ++ header_of a) ≡ length (glue l) + 11
  before_data = length-append (glue l) (header_of a) ∙ ap (λ (n : ℕ). length (glue l) + n) (length_header a)

  within_glued : length (glue l) + 11 + length a.payload ≤ length (glue (l ++ (a ∷ m)))
  within_glued = rw (around l a m, length-append (glue l ++ header_of a) (a.payload ++ glue m), before_data, length-append a.payload (glue m)) (omega arith)

  from_data : drop (length (glue l) + 11) (glue (l ++ (a ∷ m))) ≡ a.payload ++ glue m
  from_data = ap (drop (length (glue l) + 11)) (around l a m) ∙ drop_at (glue l ++ header_of a) _ _ before_data

  -- a view of the action names it
  pub glued_action : action_at (glue (l ++ (a ∷ m))) (action_view_at (length (glue l)) a) ≡ a
  unfolding action_at action_view_at
  glued_action =
      let payload : data_at (glue (l ++ (a ∷ m))) (action_view_at (length (glue l)) a) ≡ a.payload =
      ap (λ (s : List ℕ). part_at s (length (glue l) + 11) (length a.payload)) (around l a m)
      ∙ part_between (glue l ++ header_of a) a.payload (glue m) _ _ before_data refl in
      ap (λ (p : List ℕ). record { kind = a.kind; expires = a.expires; payload = p }) payload

  -- writing in place is replacing that action, where the type, the expiry and the data's length stay
  pub glued_written : (b : Action) → b.kind ≡ a.kind → b.expires ≡ a.expires → length b.payload ≡ length a.payload
      → written_at (glue (l ++ (a ∷ m))) (action_view_at (length (glue l)) a) b ≡ glue (l ++ (b ∷ m))
  unfolding written_at action_view_at header_of
  glued_written b k x n =
      let s = glue (l ++ (a ∷ m)) in
      let at = length (glue l) + 11 in
      let front : take at s ≡ glue l ++ header_of a = ap (take at) (around l a m) ∙ take_at (glue l ++ header_of a) _ _ before_data in
      let back : drop (at + length a.payload) s ≡ glue m = sym (drop-drop (length a.payload) at s) ∙ ap (drop (length a.payload)) from_data ∙ drop_at a.payload (glue m) _ refl in
      let same : header_of a ≡ header_of b = unfold header_of in rw (k, x, n) in
      rw (le-leb _ _ within_glued)
      (ap₂ (λ (p q : List ℕ). p ++ b.payload ++ q) (front ∙ ap (λ (h : List ℕ). glue l ++ h) same) back
      ∙ append_assoc (glue l ++ header_of b) b.payload (glue m) ∙ sym (around l b m))

-- ---- regular actions

module _ {a : Action} (r : Regular a) where
  fits : Fits a
  fits = record { known = r.known; short = rw r.sized (omega (arith, data_at_most a.kind)); soon = r.soon }

  bytes_glued_one : Bytes (glue_one a)
  unfolding glue_one
  bytes_glued_one zero = omega (arith, known_code a.kind r.known)
  bytes_glued_one (suc i) =
      bytes_append (bytes_of 2 (length a.payload) ++ bytes_of 8 a.expires) a.payload
      (bytes_append (bytes_of 2 (length a.payload)) (bytes_of 8 a.expires) (bytes_of_bytes 2 (length a.payload)) (bytes_of_bytes 8 a.expires))
      r.bytes i

-- regular actions glue to bytes
pub bytes_glued : (l : List Action) → Each Regular l → Bytes (glue l)
unfolding glue
bytes_glued [] rs = λ i. omega arith
bytes_glued (a ∷ l) rs = bytes_append (glue_one a) (glue l) (bytes_glued_one rs.0) (bytes_glued l rs.1)

pub regular_fit : (l : List Action) → Each Regular l → Each Fits l
regular_fit l rs = each_so (λ a. fits {a = a}) l rs
