-- The laws of little-endian numbers, each over the width: they are the library's numbers of bytes, and what is written is read back.
-- Assumes nothing.
use mathlib.Core.Path.{◌≡◌, refl, sym, ap, ap₂, subst, ◌∙◌}
use mathlib.Core.Bool.{Bool, true, false, cond}
use mathlib.Core.List.{List, [], ◌∷◌, ◌++◌, append_assoc}
use Prim.Native.Nat.{ℕ, zero, suc, ◌+◌, ◌-◌, ◌*◌, ◌/◌, ◌%◌, ◌^◌, ◌<◌, ◌≤◌}
use native.Mathlib.Nat.{pow-suc}
use native.Mathlib.Omega.{arith}
use borrow.Author.Tests.{le-leb, lt-leb, leb-true}
use lib.Dec.{leb}
use lib.ListN.{length, take, drop, length-append, length-drop, length-take, take-append-drop}
use lib.Seq.{get_or-drop, take-suc, take_all, take_at, take-append-le, drop_at, drop-append-le, drop-drop, length-take-le}
use Rattle.std.specs.List.{slice_index}
use Rattle.std.specs.Borrow.{Bor}
use Rattle.std.specs.Option.{MatchOption}
use Rattle.std.specs.declared.option.Option.{Option}
use Rattle.std.specs.declared.option.Option.TheVariants.{None, Some}
use borrow.Rule.Slice.PartMut.{put_mid}
use Rattle.std.proofs.lemmas.Slice.{put_mid-paste}
use Rattle.std.proofs.Math.Nat.{div-div-eq-div-mul}
use Rattle.std.specs.Int.{byte_worth, byte_at, bytes_low_first, sum_through}
use Rattle.number.specs.Number.{number, bytes_of, number_at, with_number_at, Bytes}

pub length-bytes_of : (width n : ℕ) → length (bytes_of width n) ≡ width
unfolding bytes_of
length-bytes_of zero n = refl
length-bytes_of (suc width) n = ap suc (length-bytes_of width (n / 256))

pub number_append : (xs ys : List ℕ) → number (xs ++ ys) ≡ number xs + 256 ^ length xs * number ys
unfolding number
number_append [] ys = omega arith
number_append (x ∷ xs) ys = rw (number_append xs ys, pow-suc) (omega arith)

pub number_there : (width : ℕ) (s : List ℕ) (at : ℕ) → at + width ≤ length s → number_at width s at ≡ number (take width (drop at s))
unfolding number_at
number_there width s at h = rw (le-leb _ _ h)

pub number_not_there : (width : ℕ) (s : List ℕ) (at : ℕ) → length s < at + width → number_at width s at ≡ 0
unfolding number_at
number_not_there width s at h = rw (lt-leb _ _ h)

-- where it fits, a number is written over what was there
pub written : (width : ℕ) (s : List ℕ) (at n : ℕ) → at + width ≤ length s → with_number_at width s at n ≡ take at s ++ bytes_of width n ++ drop (at + width) s
unfolding with_number_at
written width s at n h = rw (le-leb _ _ h)

pub not_written : (width : ℕ) (s : List ℕ) (at n : ℕ) → length s < at + width → with_number_at width s at n ≡ s
unfolding with_number_at
not_written width s at n h = rw (lt-leb _ _ h)

-- ---- the library's numbers of bytes, and its bytes of a number

-- the sum that the library makes of the first bytes is their number
number_of_le_bytes : (k : ℕ) (bs : List ℕ) → k < length bs → sum_through (λ i. byte_worth i (slice_index bs i)) k ≡ number (take (suc k) bs)
unfolding number
number_of_le_bytes zero [] h = omega arith
number_of_le_bytes zero (b ∷ bs) h = omega arith
number_of_le_bytes (suc k) bs h =
    rw (take-suc bs (suc k) 0 h, number_append, length-take-le (suc k) bs (omega arith), ← (number_of_le_bytes k bs (omega arith))) (omega arith)

-- what is read is the number of the bytes that are there, and else 0
pub read : (width n : ℕ) (s : List ℕ) (at : ℕ) (there : Option (Bor (List ℕ)))
    → MatchOption there (length s < at + suc width) (λ it. (at + suc width ≤ length s) × (it.now ≡ take (suc width) (drop at s)))
    → MatchOption there (n ≡ 0) (λ it. n ≡ sum_through (λ i. byte_worth i (slice_index it.now i)) width)
    → n ≡ number_at (suc width) s at
read width n s at None short none = none ∙ sym (number_not_there (suc width) s at short)
read width n s at (Some it) (fits, same) is =
    let part = take (suc width) (drop at s) in
    let long : length part ≡ suc width = length-take-le (suc width) (drop at s) (simp length-drop (omega arith)) in
    is ∙ rw (same, number_of_le_bytes width part (rw long (omega arith)), number_there (suc width) s at fits, take_all (suc width) part (rw long (omega arith)))

-- the bytes that the library takes from a number, from byte i on
le_bytes_from : (k i n : ℕ) → bytes_low_first i k n ≡ bytes_of k (n / 256 ^ i)
unfolding bytes_of
le_bytes_from zero i n = refl
le_bytes_from (suc k) i n =
    let rest : n / 256 ^ suc i ≡ n / 256 ^ i / 256 = rw (div-div-eq-div-mul n (256 ^ i) 256, pow-suc) refl in
    ap₂ (λ (b : ℕ) (bs : List ℕ). b ∷ bs) (low i) (le_bytes_from k (suc i) n ∙ ap (bytes_of k) rest)
  where
    low : (i : ℕ) → byte_at i n ≡ n / 256 ^ i % 256
    low zero = omega arith
    low (suc i) = refl

-- what is written over as many bytes are the bytes of the number
pub write : (width n : ℕ) (s bytes : List ℕ) (at k : ℕ) → at + width ≤ length s → k ≡ width → bytes ≡ bytes_low_first 0 width n
    → put_mid at k s bytes ≡ with_number_at width s at n
write width n s bytes at k fits same is =
    let whole : n / 256 ^ 0 ≡ n = omega arith in
    put_mid-paste at k s bytes (bytes_of width n) width (is ∙ rw whole at (le_bytes_from width 0 n)) (sym same) (sym (length-bytes_of width n))
    ∙ rw (take_all width (bytes_of width n) (rw length-bytes_of (omega arith))) (sym (written width s at n fits))

-- the bytes of a number that they hold stand for it
pub number-bytes_of : (width n : ℕ) → n < 256 ^ width → number (bytes_of width n) ≡ n
unfolding number bytes_of
number-bytes_of zero n h = omega arith
number-bytes_of (suc width) n h =
    let rest : n / 256 < 256 ^ width = omega (arith, rw pow-suc at h) in
    rw (number-bytes_of width (n / 256) rest) (omega arith)

-- and the number that a row of bytes stands for has those bytes
pub bytes_of-number : (bs : List ℕ) → Bytes bs → bytes_of (length bs) (number bs) ≡ bs
unfolding number bytes_of
bytes_of-number [] h = refl
bytes_of-number (b ∷ bs) h =
    let low : b < 256 = h 0 in
    let here : (b + 256 * number bs) % 256 ≡ b = omega arith in
    let rest : (b + 256 * number bs) / 256 ≡ number bs = omega arith in
    rw (here, rest, bytes_of-number bs (λ i. h (suc i)))

pub bytes_of_bytes : (width n : ℕ) → Bytes (bytes_of width n)
unfolding bytes_of
bytes_of_bytes zero n i = omega arith
bytes_of_bytes (suc width) n zero = omega arith
bytes_of_bytes (suc width) n (suc i) = bytes_of_bytes width (n / 256) i

-- a number of some bytes is below what they can hold
pub number_below : (bs : List ℕ) → Bytes bs → number bs < 256 ^ length bs
unfolding number
number_below [] h = omega arith
number_below (b ∷ bs) h =
    let low : b < 256 = h 0 in
    let rest : number bs < 256 ^ length bs = number_below bs (λ i. h (suc i)) in
    rw pow-suc (omega arith)

pub bytes_drop : (n : ℕ) (s : List ℕ) → Bytes s → Bytes (drop n s)
bytes_drop n s h i = rw (get_or-drop n s i 0) (h (n + i))

pub bytes_take : (n : ℕ) (s : List ℕ) → Bytes s → Bytes (take n s)
bytes_take zero s h i = omega arith
bytes_take (suc n) [] h i = h i
bytes_take (suc n) (b ∷ s) h zero = h 0
bytes_take (suc n) (b ∷ s) h (suc i) = bytes_take n s (λ j. h (suc j)) i

pub bytes_append : (s t : List ℕ) → Bytes s → Bytes t → Bytes (s ++ t)
bytes_append [] t hs ht i = ht i
bytes_append (b ∷ s) t hs ht zero = hs 0
bytes_append (b ∷ s) t hs ht (suc i) = bytes_append s t (λ j. hs (suc j)) ht i

-- writing a number keeps the length
pub length_with_number : (width : ℕ) (s : List ℕ) (at n : ℕ) → length (with_number_at width s at n) ≡ length s
unfolding with_number_at
length_with_number width s at n = go (leb (at + width) (length s)) refl
  where
    go : (t : Bool) → leb (at + width) (length s) ≡ t → length (cond t (take at s ++ bytes_of width n ++ drop (at + width) s) s) ≡ length s
    go true e =
        let fits : at + width ≤ length s = leb-true _ _ e in
        simp (length-append, length-bytes_of, length-drop, length-take) (omega arith)
    go false e = refl

-- ---- what is read after a number was written

module _ (width : ℕ) (s : List ℕ) (at n : ℕ) (fits : at + width ≤ length s) where
  front : length (take at s) ≡ at
  front = length-take-le at s (omega arith)

  in_parts : with_number_at width s at n ≡ take at s ++ (bytes_of width n ++ drop (at + width) s)
  unfolding with_number_at
  in_parts = rw (le-leb _ _ fits) (append_assoc (take at s) (bytes_of width n) (drop (at + width) s))

  from_there : drop at (with_number_at width s at n) ≡ bytes_of width n ++ drop (at + width) s
  from_there = ap (drop at) in_parts ∙ drop_at (take at s) _ at front

  after_it : drop (at + width) (with_number_at width s at n) ≡ drop (at + width) s
  after_it =
      sym (drop-drop width at (with_number_at width s at n))
      ∙ ap (drop width) from_there ∙ drop_at (bytes_of width n) (drop (at + width) s) width (length-bytes_of width n)

  -- what was written is read back, where its bytes hold it
  pub read_back : n < 256 ^ width → number_at width (with_number_at width s at n) at ≡ n
  read_back small =
      number_there width (with_number_at width s at n) at (rw (length_with_number width s at n) fits)
      ∙ ap (λ (x : List ℕ). number (take width x)) from_there
      ∙ ap number (take_at (bytes_of width n) (drop (at + width) s) width (length-bytes_of width n))
      ∙ number-bytes_of width n small

  -- a part that ends before the place, whatever follows there
  part_before : (from : ℕ) (rest : List ℕ) → from + width ≤ at → take width (drop from (take at s ++ rest)) ≡ take width (drop from (take at s))
  part_before from rest h =
      ap (take width) (drop-append-le from (take at s) rest (rw front (omega arith)))
      ∙ take-append-le width (drop from (take at s)) rest (rw (length-drop from (take at s), front) (omega arith))

  before_it : (from : ℕ) → from + width ≤ at → take width (drop from (with_number_at width s at n)) ≡ take width (drop from s)
  before_it from h =
      ap (λ (x : List ℕ). take width (drop from x)) in_parts ∙ part_before from _ h
      ∙ sym (part_before from (drop at s) h) ∙ ap (λ (x : List ℕ). take width (drop from x)) (take-append-drop at s)

-- a number that ends before the written one stays
pub read_before : (width : ℕ) (s : List ℕ) (at n from : ℕ) → from + width ≤ at → at + width ≤ length s
    → number_at width (with_number_at width s at n) from ≡ number_at width s from
read_before width s at n from h fits =
    number_there width (with_number_at width s at n) from (rw (length_with_number width s at n) (omega arith))
    ∙ ap number (before_it width s at n fits from h)
    ∙ sym (number_there width s from (omega arith))

-- and so does one that begins after it
pub read_after : (width : ℕ) (s : List ℕ) (at n from : ℕ) → at + width ≤ from → at + width ≤ length s
    → number_at width (with_number_at width s at n) from ≡ number_at width s from
unfolding number_at
read_after width s at n from h fits =
    let past : at + width + (from - (at + width)) ≡ from = omega arith in
    let same : drop from (with_number_at width s at n) ≡ drop from s =
    ap (λ (k : ℕ). drop k (with_number_at width s at n)) (sym past)
    ∙ sym (drop-drop (from - (at + width)) (at + width) (with_number_at width s at n))
    ∙ ap (drop (from - (at + width))) (after_it width s at n fits)
    ∙ drop-drop (from - (at + width)) (at + width) s ∙ ap (λ (k : ℕ). drop k s) past in
    rw (length_with_number width s at n, same)

-- a number read from bytes is below what they can hold
pub read_below : (width : ℕ) (s : List ℕ) (at : ℕ) → Bytes s → number_at width s at < 256 ^ width
unfolding number_at
read_below width s at bytes = go (leb (at + width) (length s)) refl
  where
    go : (t : Bool) → leb (at + width) (length s) ≡ t → cond t (number (take width (drop at s))) 0 < 256 ^ width
    go true e =
        let part = take width (drop at s) in
        let fits : at + width ≤ length s = leb-true _ _ e in
        let long : length part ≡ width = length-take-le width (drop at s) (rw (length-drop at s) (omega arith)) in
        subst (λ (w : ℕ). number part < 256 ^ w) long (number_below part (bytes_take width (drop at s) (bytes_drop at s bytes)))
    go false e =
        let some : number (bytes_of width 0) < 256 ^ width = rw (length-bytes_of width 0) at (number_below (bytes_of width 0) (bytes_of_bytes width 0)) in
        omega arith

-- writing a number keeps bytes bytes
pub bytes_with_number : (width : ℕ) (s : List ℕ) (at n : ℕ) → Bytes s → Bytes (with_number_at width s at n)
unfolding with_number_at
bytes_with_number width s at n bytes = go (leb (at + width) (length s))
  where
    whole : Bytes (take at s ++ bytes_of width n ++ drop (at + width) s)
    whole =
        bytes_append (take at s ++ bytes_of width n) (drop (at + width) s)
        (bytes_append (take at s) (bytes_of width n) (bytes_take at s bytes) (bytes_of_bytes width n)) (bytes_drop (at + width) s bytes)

    go : (t : Bool) → Bytes (cond t (take at s ++ bytes_of width n ++ drop (at + width) s) s)
    go true = whole
    go false = bytes
