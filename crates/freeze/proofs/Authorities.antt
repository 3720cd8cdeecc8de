-- The frozen fields, which the code compares as keys: a key, and two keys with a tag of four bytes before them. Where the second account's
-- data has them, they are the same exactly where the bytes are.
-- Assumes nothing.
use mathlib.Core.Path.{◌≡◌, refl, sym}
use mathlib.Core.Bool.{Bool, true, false, ◌&&◌, and-false}
use mathlib.Core.List.{List, ◌++◌}
use Prim.Native.Nat.{ℕ, ◌+◌, ◌<◌, ◌≤◌}
use native.Mathlib.Omega.{arith}
use borrow.Author.Tests.{leb-true, leb-false}
use lib.Dec.{eqb, leb}
use lib.ListN.{length, take, drop}
use lib.Seq.{take-add, drop-drop}
use Rattle.number.specs.Number.{Bytes, number_at}
use Rattle.part.specs.Part.{part_at}
use Rattle.part.proofs.Laws.{part_there, part_past, length_part_there}
use Rattle.key.proofs.Laws.{lengths_differ, left_no_key, right_no_key, key_compared}
use Rattle.key.proofs.Words.{word_first}
use Rattle.token.specs.Tokens.{token_account_length}
use Rattle.freeze.specs.Freeze.{same_part, same_authorities}
use Rattle.freeze.specs.Views.{same_key_at, same_optional_key_at}

module _ (p q : List ℕ) (at : ℕ) where
  -- a key is its bytes
  key_there : at + 32 ≤ length q → same_key_at at p q ≡ same_part at 32 p q
  unfolding same_part
  key_there h = key_compared (part_at p at 32) (part_at q at 32) (length_part_there q at 32 h)

  left_short : length p < at + 32 → same_key_at at p q ≡ false
  left_short h = left_no_key (part_at p at 32) (part_at q at 32) (rw (part_past p at 32 h) (λ e. omega arith))

  right_short : length q < at + 32 → same_key_at at p q ≡ false
  right_short h = right_no_key (part_at p at 32) (part_at q at 32) (rw (part_past q at 32 h) (λ e. omega arith))

-- the tag's bytes, and the key's
option_cut : (s : List ℕ) (at : ℕ) → at + 36 ≤ length s → part_at s at 36 ≡ take 4 (drop at s) ++ part_at s (at + 4) 32
option_cut s at h = rw (part_there s at 36 h, part_there s (at + 4) 32 (omega arith), ← (drop-drop 4 at s)) (take-add 4 32 (drop at s))

-- an optional key is its bytes
module _ (p q : List ℕ) (bp : Bytes p) (bq : Bytes q) (at : ℕ) (hq : at + 36 ≤ length q) where
  option_there : same_optional_key_at at (at + 4) p q ≡ same_part at 36 p q
  unfolding same_part
  option_there = go (leb (at + 36) (length p)) refl
    where
      go : (t : Bool) → leb (at + 36) (length p) ≡ t → same_optional_key_at at (at + 4) p q ≡ same_part at 36 p q
      go true e =
          let hp : at + 36 ≤ length p = leb-true _ _ e in
          rw (
            key_there p q (at + 4) (omega arith),
            option_cut p at hp,
            option_cut q at hq,
            word_first 4 p q bp bq at (omega arith) (omega arith) (part_at p (at + 4) 32) (part_at q (at + 4) 32),
          )
      go false e =
          let short : length p < at + 36 = leb-false _ _ e in
          let other : length (part_at q at 36) ≡ length (part_at p at 36) → ⊥ = rw (part_past p at 36 short, length_part_there q at 36 hq) (λ same. omega arith) in
          rw (left_short p q (at + 4) (omega arith), and-false) (sym (lengths_differ (part_at p at 36) (part_at q at 36) other))

-- ---- all three

module _ (p q : List ℕ) (bp : Bytes p) (bq : Bytes q) where
  abbrev there_and_same : Bool
  there_and_same = leb token_account_length (length q) && same_authorities p q

  pub authorities_as_keys : there_and_same ≡ (same_key_at 32 p q && same_optional_key_at 72 76 p q && same_optional_key_at 129 133 p q)
  unfolding same_authorities
  authorities_as_keys = go (leb token_account_length (length q)) refl
    where
      go : (t : Bool) → leb token_account_length (length q) ≡ t → (t && same_authorities p q) ≡ (same_key_at 32 p q && same_optional_key_at 72 76 p q && same_optional_key_at 129 133 p q)
      go true e =
          let long : 165 ≤ length q = leb-true _ _ e in
          rw (key_there p q 32 (omega arith), option_there p q bp bq 72 (omega arith), option_there p q bp bq 129 (omega arith))
      go false e =
          let short : length q < 165 = leb-false _ _ e in
          rw (right_short p q 133 (omega arith), and-false (eqb (number_at 4 p 129) (number_at 4 q 129)), and-false)
