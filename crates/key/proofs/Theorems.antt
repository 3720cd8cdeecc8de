-- What is promised of comparing keys, as one sentence.
-- Assumes nothing.
use mathlib.Core.Path.{◌≡◌, subst}
use mathlib.Core.Bool.{true, ◌&&◌, and-eq-true_iff}
use mathlib.Core.List.{List}
use Prim.Native.Nat.{ℕ}
use borrow.Author.Tests.{eqb-true}
use lib.Dec.{eqb}
use lib.ListN.{length}
use Rattle.key.specs.Key.{key_length, same_key}
use Rattle.key.proofs.Laws.{same_key_eq, same_key_refl}

module _ (a b : List ℕ) where
  is_key : same_key a b ≡ true → length a ≡ key_length
  unfolding same_key
  is_key e =
      let both = ((and-eq-true_iff (eqb (length a) key_length && eqb (length b) key_length) _).0 e).0 in
      eqb-true _ _ ((and-eq-true_iff (eqb (length a) key_length) _).0 both).0

  -- two rows are the same key exactly where the first is a key and the second the same bytes
  pub the_same_key_is_the_same_32_bytes : (same_key a b ≡ true → (length a ≡ key_length) × (a ≡ b)) × (length a ≡ key_length → a ≡ b → same_key a b ≡ true)
  the_same_key_is_the_same_32_bytes =
      (λ e. (is_key e, same_key_eq a b e), λ long same. subst (λ (k : List ℕ). same_key a k ≡ true) same (same_key_refl a long))
