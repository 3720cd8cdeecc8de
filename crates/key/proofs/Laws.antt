-- The laws of comparing keys, and of the key of a part.
-- Assumes nothing.
use mathlib.Core.Path.{◌≡◌, refl, sym, ap, ap₂, ◌∙◌}
use mathlib.Core.Bool.{Bool, true, false, ◌&&◌, and-false, and-eq-true_iff}
use mathlib.Core.List.{List, [], ◌∷◌}
use Prim.Native.Nat.{ℕ, ◌≤◌}
use native.Mathlib.Omega.{arith}
use borrow.Author.Tests.{eq-eqb, ne_eqb, eqb-true, eqb-false}
use lib.Dec.{eqb}
use lib.ListN.{length, replicate, drop, drop_of_length-le}
use Rattle.std.specs.Array.{IsWholeChunk}
use Rattle.std.specs.Result.{MatchResult, result_unwrap_or}
use Rattle.std.specs.declared.result.Result.{Result}
use Rattle.std.specs.declared.result.Result.TheVariants.{Ok, Err}
use Rattle.key.specs.declared.Key.{Key}
use Rattle.key.specs.Key.{same_bytes, same_key}
use Rattle.key.specs.Views.{zero_key, key_from}

pub same_bytes_end : (a b : List ℕ) (i : ℕ) → length a ≤ i → length b ≤ i → same_bytes (drop i a) (drop i b) ≡ true
unfolding same_bytes
same_bytes_end a b i ha hb = rw (drop_of_length-le a ha, drop_of_length-le b hb)

pub lengths_differ : (a b : List ℕ) → (length b ≡ length a → ⊥) → same_bytes a b ≡ false
unfolding same_bytes
lengths_differ [] [] h = absurd (h refl)
lengths_differ [] (y ∷ b) h = refl
lengths_differ (x ∷ a) [] h = refl
lengths_differ (x ∷ a) (y ∷ b) h = rw (lengths_differ a b (λ e. h (omega arith))) (and-false (eqb x y))

pub left_no_key : (a b : List ℕ) → (length a ≡ 32 → ⊥) → same_key a b ≡ false
unfolding same_key
left_no_key a b h = rw (ne_eqb _ _ h)

pub right_no_key : (a b : List ℕ) → (length b ≡ 32 → ⊥) → same_key a b ≡ false
unfolding same_key
right_no_key a b h = rw (ne_eqb _ _ h, and-false)

-- where one is a key the bytes decide
pub key_compared : (a b : List ℕ) → length b ≡ 32 → same_key a b ≡ same_bytes a b
unfolding same_key
key_compared a b hb = go (eqb (length a) 32) refl
  where
    go : (t : Bool) → eqb (length a) 32 ≡ t → same_key a b ≡ same_bytes a b
    go true e = rw (e, eq-eqb _ _ hb)
    go false e =
        let other : length a ≡ 32 → ⊥ = eqb-false _ _ e in
        left_no_key a b other ∙ sym (lengths_differ a b (λ same. other (omega arith)))

-- ---- the same key is the same bytes

pub same_bytes_eq : (a b : List ℕ) → same_bytes a b ≡ true → a ≡ b
unfolding same_bytes
same_bytes_eq [] [] e = refl
same_bytes_eq [] (y ∷ b) e = absurd (let n : ◌≡◌ {A = ℕ} 0 1 = cc in omega arith)
same_bytes_eq (x ∷ a) [] e = absurd (let n : ◌≡◌ {A = ℕ} 0 1 = cc in omega arith)
same_bytes_eq (x ∷ a) (y ∷ b) e =
    let (here, after) = (and-eq-true_iff (eqb x y) _).0 e in
    ap₂ (λ (z : ℕ) (l : List ℕ). z ∷ l) (eqb-true x y here) (same_bytes_eq a b after)

pub same_bytes_refl : (a : List ℕ) → same_bytes a a ≡ true
unfolding same_bytes
same_bytes_refl [] = refl
same_bytes_refl (x ∷ a) = rw (eq-eqb x x refl) (same_bytes_refl a)

pub same_key_eq : (a b : List ℕ) → same_key a b ≡ true → a ≡ b
unfolding same_key
same_key_eq a b e = same_bytes_eq a b ((and-eq-true_iff (eqb (length a) 32 && eqb (length b) 32) _).0 e).1

pub same_key_refl : (a : List ℕ) → length a ≡ 32 → same_key a a ≡ true
same_key_refl a h = key_compared a a h ∙ same_bytes_refl a

-- ---- the key of a part

pub key_of_its_length : (part : List ℕ) → length part ≡ 32 → key_from part ≡ record { bytes = part }
unfolding key_from
key_of_its_length part h = rw (eq-eqb _ _ h)

pub key_of_another_length : (part : List ℕ) → (length part ≡ 32 → ⊥) → key_from part ≡ zero_key
unfolding key_from
key_of_another_length part h = rw (ne_eqb _ _ h)

-- a part that converts to an array is the key of that array, and any other the key of zeros
pub key_converted : {E : Type 0} (part : List ℕ) (bytes : Result (List ℕ) E) (it : List ℕ)
    → MatchResult bytes (λ y. IsWholeChunk part y 32) (λ _. length part ≡ 32 → ⊥) → it ≡ result_unwrap_or bytes (replicate 32 0)
    → ◌≡◌ {A = Key} (record { bytes = it }) (key_from part)
unfolding zero_key
key_converted part (Ok y) it chunk is = ap (λ (l : List ℕ). record { bytes = l }) (is ∙ chunk.same) ∙ sym (key_of_its_length part chunk.long)
key_converted part (Err e) it other is = ap (λ (l : List ℕ). record { bytes = l }) is ∙ sym (key_of_another_length part other)
