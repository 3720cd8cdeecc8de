-- Rows of bytes compared by the numbers that they stand for: two rows of one length are the same exactly where their numbers are, so a
-- comparison may go on by so many bytes at a time.
-- Assumes nothing.
use mathlib.Core.Path.{◌≡◌, refl, sym, ap, ◌∙◌}
use mathlib.Core.Bool.{Bool, true, false, ◌&&◌, and_assoc}
use mathlib.Core.List.{List, [], ◌∷◌, ◌++◌}
use Prim.Native.Nat.{ℕ, ◌+◌, ◌*◌, ◌<◌, ◌≤◌}
use native.Mathlib.Omega.{arith}
use borrow.Author.Tests.{eq-eqb, ne_eqb}
use lib.Dec.{eqb}
use lib.ListN.{length, get_or, take, drop, length-drop, take-append-drop}
use lib.Seq.{drop-drop, length-take-le}
use mathlib.Core.Logic.{◌≢◌}
use Rattle.std.specs.Bool.{MatchBool}
use Rattle.std.specs.List.{AllWithin, HoldsAt, range_with_len}
use Rattle.number.specs.Number.{Bytes, number, number_at}
use Rattle.number.proofs.Laws.{bytes_of-number, bytes_drop, bytes_take, number_there}
use Rattle.key.specs.Key.{same_bytes, same_key}
use Rattle.key.proofs.Laws.{key_compared, same_key_eq, same_bytes_eq, same_bytes_refl, same_bytes_end}

same_number : (a b : List ℕ) → Bytes a → Bytes b → length a ≡ length b → same_bytes a b ≡ eqb (number a) (number b)
same_number a b ha hb long = go (same_bytes a b) refl
  where
    back : number a ≡ number b → a ≡ b
    back e = sym (bytes_of-number a ha) ∙ rw (long, e) (bytes_of-number b hb)

    go : (t : Bool) → same_bytes a b ≡ t → t ≡ eqb (number a) (number b)
    go true e = sym (eq-eqb _ _ (ap number (same_bytes_eq a b e)))
    go false e =
        sym (ne_eqb _ _ (λ same.
        let one : same_bytes a b ≡ true = rw (back same) (same_bytes_refl b) in
        let n : ◌≡◌ {A = ℕ} 0 1 = cc in
        omega arith))

same_append : (x y xs ys : List ℕ) → length x ≡ length y → same_bytes (x ++ xs) (y ++ ys) ≡ (same_bytes x y && same_bytes xs ys)
unfolding same_bytes
same_append [] [] xs ys h = refl
same_append [] (b ∷ y) xs ys h = absurd (omega arith)
same_append (a ∷ x) [] xs ys h = absurd (omega arith)
same_append (a ∷ x) (b ∷ y) xs ys h = rw (same_append x y xs ys (omega arith)) (sym (and_assoc (eqb a b) _ _))

-- the `width` bytes at a place are compared as one number
module _ (width : ℕ) (a b : List ℕ) (ha : Bytes a) (hb : Bytes b) (i : ℕ) (ia : i + width ≤ length a) (ib : i + width ≤ length b) where
  pub word_first : (xs ys : List ℕ) → same_bytes (take width (drop i a) ++ xs) (take width (drop i b) ++ ys) ≡ (eqb (number_at width a i) (number_at width b i) && same_bytes xs ys)
  word_first xs ys =
      let long : length (take width (drop i a)) ≡ length (take width (drop i b)) =
      length-take-le width (drop i a) (simp length-drop (omega arith)) ∙ sym (length-take-le width (drop i b) (simp length-drop (omega arith))) in
      let here = same_number (take width (drop i a)) (take width (drop i b)) (bytes_take width (drop i a) (bytes_drop i a ha)) (bytes_take width (drop i b) (bytes_drop i b hb)) long in
      rw (number_there width a i ia, number_there width b i ib, ← here) (same_append _ _ xs ys long)

  word_step : same_bytes (drop i a) (drop i b) ≡ (eqb (number_at width a i) (number_at width b i) && same_bytes (drop (i + width) a) (drop (i + width) b))
  word_step =
      rw (← (drop-drop width i a), ← (drop-drop width i b), ← (word_first (drop width (drop i a)) (drop width (drop i b))), take-append-drop width (drop i a), take-append-drop width (drop i b))

-- two keys are the same where their four words are
pub words_compared : (a b : List ℕ) → Bytes a → Bytes b → length a ≡ 32 → length b ≡ 32 → (t : Bool)
    → MatchBool t (AllWithin (λ i. number_at 8 a (8 * i) ≡ number_at 8 b (8 * i)) (range_with_len 0 4) 0 4) ((k : ℕ) × (k < 4) × HoldsAt (λ i. number_at 8 a (8 * i) ≢ number_at 8 b (8 * i)) (range_with_len 0 4) k)
    → t ≡ same_key a b
words_compared a b ha hb long_a long_b true each =
    let first = next 0 (omega arith) (each 0 0 (omega arith) (omega arith)) in
    let second = next 8 (omega arith) (each 1 0 (omega arith) (omega arith)) in
    let third = next 16 (omega arith) (each 2 0 (omega arith) (omega arith)) in
    let last = next 24 (omega arith) (each 3 0 (omega arith) (omega arith)) in
    sym (key_compared a b long_b ∙ first ∙ second ∙ third ∙ last ∙ same_bytes_end a b 32 (omega arith) (omega arith))
  where
    next : (i : ℕ) → i + 8 ≤ 32 → number_at 8 a i ≡ number_at 8 b i → same_bytes (drop i a) (drop i b) ≡ same_bytes (drop (i + 8) a) (drop (i + 8) b)
    next i here e = word_step 8 a b ha hb i (omega arith) (omega arith) ∙ rw (eq-eqb _ _ e) refl
words_compared a b ha hb long_a long_b false (k, _, differs) = go (same_key a b) refl
  where
    go : (t : Bool) → same_key a b ≡ t → false ≡ t
    go true e = absurd (differs 0 (ap (λ (l : List ℕ). number_at 8 l (8 * get_or (range_with_len 0 4) k 0)) (same_key_eq a b e)))
    go false e = refl
