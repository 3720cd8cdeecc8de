-- What writing a changed action where a view says changes.
-- Assumes nothing.
use mathlib.Core.Path.{◌≡◌, refl, sym, ap, ap₂, ◌∙◌}
use mathlib.Core.List.{List, [], ◌++◌, append_assoc, append-nil}
use Prim.Native.Nat.{ℕ, ◌+◌, ◌-◌, ◌<◌, ◌≤◌}
use native.Mathlib.Omega.{arith}
use borrow.Author.Tests.{le-leb, lt-leb}
use lib.Dec.{lit<}
use lib.ListN.{length, take, drop, length-drop, take-append-drop, drop_of_length-le, length-take}
use lib.Seq.{drop-drop, drop_at, take-add, take-take, take_all, length-take-le}
use Rattle.number.specs.Number.{with_number_at}
use Rattle.number.proofs.Laws.{not_written}
use Rattle.part.proofs.Laws.{part_there}
use Rattle.action.specs.declared.ActionView.{ActionView}
use Rattle.action.specs.Action.{Action}
use Rattle.action.specs.Fields.{mint_length, amounts_of}
use Rattle.action.specs.Views.{data_at, action_at, written_at}
use Rattle.change.specs.declared.Change.{Change}
use Rattle.change.specs.declared.Change.TheVariants.{Nothing, Remaining, Spent}
use Rattle.change.specs.Changed.{with_amounts, changed_amounts, changed}

regroup : (a b c r : List ℕ) → a ++ b ++ (c ++ r) ≡ a ++ (b ++ c) ++ r
regroup a b c r = simp append_assoc

drop-take : (k n : ℕ) (d : List ℕ) → k ≤ n → n ≤ length d → drop k (take n d) ≡ take (n - k) (drop k d)
drop-take k n d h long =
    let whole : k + (n - k) ≡ n = omega arith in
    let front : length (take k d) ≡ k = length-take-le k d (omega arith) in
    ap (λ (m : ℕ). drop k (take m d)) (sym whole) ∙ ap (drop k) (take-add k (n - k) d) ∙ drop_at (take k d) _ k front

-- a part of some data, and what is put in its place
module _ (s : List ℕ) (at len skip : ℕ) (h : skip ≤ len) (there : at + len ≤ length s) where
  rest_of : at + len - (at + skip) ≡ len - skip
  rest_of = omega arith

  part_of : take (at + len - (at + skip)) (drop (at + skip) s) ≡ drop skip (take len (drop at s))
  part_of =
      let long : len ≤ length (drop at s) = rw (length-drop at s) (omega arith) in
      rw (rest_of, drop-take skip len (drop at s) h long, drop-drop skip at s)

  put_in_place : (new : List ℕ)
      → take (at + skip) s ++ (new ++ drop (at + len - (at + skip)) (drop (at + skip) s))
      ≡ take at s ++ (take skip (take len (drop at s)) ++ new) ++ drop (at + len) s
  put_in_place new =
      let next : at + skip + (len - skip) ≡ at + len = omega arith in
      let after : drop (at + len - (at + skip)) (drop (at + skip) s) ≡ drop (at + len) s =
      ap (λ (k : ℕ). drop k (drop (at + skip) s)) rest_of ∙ drop-drop (len - skip) (at + skip) s ∙ ap (λ (k : ℕ). drop k s) next in
      ap₂ (λ (p q : List ℕ). p ++ (new ++ q)) (take-add at skip s) after
      ∙ regroup (take at s) (take skip (drop at s)) new (drop (at + len) s)
      ∙ ap (λ (k : List ℕ). take at s ++ (k ++ new) ++ drop (at + len) s) (sym (take-take skip len (drop at s) h))

-- an action's data, changed, from its data
changed_payload : (change : Change) (s : List ℕ) (v : ActionView)
    → (changed change (action_at s v)).payload ≡ take (mint_length v.kind) (data_at s v) ++ changed_amounts change (drop (mint_length v.kind) (data_at s v))
unfolding changed with_amounts amounts_of action_at
changed_payload change s v = refl

-- no change is made where there are no amounts
nothing_changed : (change : Change) → changed_amounts change [] ≡ []
nothing_changed Nothing = refl
nothing_changed (Remaining n) = not_written 8 [] 0 n (lit< tt)
nothing_changed (Spent x y) = ap (λ (l : List ℕ). with_number_at 8 l 24 y) (not_written 8 [] 8 x (lit< tt)) ∙ not_written 8 [] 24 y (lit< tt)

module _ (s : List ℕ) (v : ActionView) where
  pub written_past : (a : Action) → length s < v.at + v.len → s ≡ written_at s v a
  unfolding written_at
  written_past a h = rw (lt-leb _ _ h)

  module _ (there : v.at + v.len ≤ length s) (change : Change) where
    written_there : written_at s v (changed change (action_at s v))
        ≡ take v.at s
        ++ (take (mint_length v.kind) (take v.len (drop v.at s))
        ++ changed_amounts change (drop (mint_length v.kind) (take v.len (drop v.at s))))
        ++ drop (v.at + v.len) s
    unfolding written_at
    written_there = rw (le-leb _ _ there, changed_payload change s v, part_there s v.at v.len there)

    -- data too short for amounts stays
    pub written_short : v.len < mint_length v.kind → s ≡ written_at s v (changed change (action_at s v))
    written_short short =
        let m = mint_length v.kind in
        let d = take v.len (drop v.at s) in
        let small : length d ≤ m = rw (length-take, length-drop v.at s) (omega arith) in
        let all : take m d ≡ d = take_all m d small in
        let none : drop m d ≡ [] = drop_of_length-le d small in
        let unchanged : changed_amounts change (drop m d) ≡ [] = ap (changed_amounts change) none ∙ nothing_changed change in
        sym
        (written_there
        ∙ ap₂ (λ (p q : List ℕ). take v.at s ++ (p ++ q) ++ drop (v.at + v.len) s) all unchanged
        ∙ ap (λ (p : List ℕ). take v.at s ++ p ++ drop (v.at + v.len) s) (append-nil d)
        ∙ append_assoc (take v.at s) d _
        ∙ ap (λ (r : List ℕ). take v.at s ++ (d ++ r)) (sym (drop-drop v.len v.at s))
        ∙ ap (λ (r : List ℕ). take v.at s ++ r) (take-append-drop v.len (drop v.at s))
        ∙ take-append-drop v.at s)

    -- amounts written where they lie are the action's amounts, changed
    pub written_part : (skip : ℕ) → skip ≡ mint_length v.kind → skip ≤ v.len
        → take (v.at + skip) s
        ++ (changed_amounts change (take (v.at + v.len - (v.at + skip)) (drop (v.at + skip) s))
        ++ drop (v.at + v.len - (v.at + skip)) (drop (v.at + skip) s))
        ≡ written_at s v (changed change (action_at s v))
    written_part skip e h =
        let part = part_of s v.at v.len skip h there in
        put_in_place s v.at v.len skip h there _
        ∙ ap (λ (p : List ℕ). take v.at s ++ (take skip (take v.len (drop v.at s)) ++ changed_amounts change p) ++ drop (v.at + v.len) s) part
        ∙ rw e (sym written_there)
