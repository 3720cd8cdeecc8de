-- What `all` and `any` answer of a list, as a test that goes down it element by element.
-- Assumes nothing.
use mathlib.Core.Path.{◌≡◌, sym}
use mathlib.Core.Bool.{Bool, true, false, ◌&&◌, ◌||◌, and-false, or-true}
use mathlib.Core.List.{List, [], ◌∷◌}
use Prim.Native.Nat.{ℕ, zero, suc, ◌<◌}
use native.Mathlib.Omega.{arith}
use lib.ListN.{length}
use Rattle.std.specs.Bool.{MatchBool}
use Rattle.std.specs.List.{AllWithin, HoldsAt}

module _ {X : Type 0} (p : X → Bool) (down : List X → Bool) where
  -- a test of each element
  module _ (none : down [] ≡ true) (more : (x : X) (l : List X) → down (x ∷ l) ≡ (p x && down l)) where
    pub all_down : (xs : List X) (r : Bool)
        → MatchBool r (AllWithin (λ x. p x ≡ true) xs 0 (length xs)) ((k : ℕ) × (k < length xs) × HoldsAt (λ x. p x ≡ false) xs k)
        → r ≡ down xs
    all_down [] true each = sym none
    all_down [] false (k, inside, at_k) = absurd (omega arith)
    all_down (x ∷ xs) true each =
        rw (more x xs, each 0 x (omega arith) (omega arith)) (all_down xs true (λ k d low high. each (suc k) d (omega arith) (omega arith)))
    all_down (x ∷ xs) false (zero, inside, at_k) = rw (more x xs, at_k x)
    all_down (x ∷ xs) false (suc k, inside, at_k) =
        rw (more x xs, ← (all_down xs false (k, omega arith, λ d. at_k d))) (sym (and-false (p x)))

  -- a test that some element meets
  module _ (none : down [] ≡ false) (more : (x : X) (l : List X) → down (x ∷ l) ≡ (p x || down l)) where
    pub any_down : (xs : List X) (r : Bool)
        → MatchBool r ((k : ℕ) × (k < length xs) × HoldsAt (λ x. p x ≡ true) xs k) (AllWithin (λ x. p x ≡ false) xs 0 (length xs))
        → r ≡ down xs
    any_down [] false each = sym none
    any_down [] true (k, inside, at_k) = absurd (omega arith)
    any_down (x ∷ xs) false each =
        rw (more x xs, each 0 x (omega arith) (omega arith)) (any_down xs false (λ k d low high. each (suc k) d (omega arith) (omega arith)))
    any_down (x ∷ xs) true (zero, inside, at_k) = rw (more x xs, at_k x)
    any_down (x ∷ xs) true (suc k, inside, at_k) =
        rw (more x xs, ← (any_down xs true (k, omega arith, λ d. at_k d))) (sym (or-true (p x)))
