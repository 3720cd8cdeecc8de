-- The laws of entries: those of a list whose encoding lies in some bytes mean that list over those bytes.
-- Assumes nothing.
use Prim.Native.Nat.{ℕ, ◌+◌}
use mathlib.Core.Path.{◌≡◌, refl, sym, ap, ap₂, ◌∙◌}
use mathlib.Core.List.{List, [], ◌∷◌, ◌++◌, map, append_assoc}
use native.Mathlib.Omega.{arith}
use lib.ListN.{length, length-append}
use Rattle.number.specs.Number.{bytes_of}
use Rattle.number.proofs.Laws.{length-bytes_of}
use Rattle.part.specs.Part.{part_at}
use Rattle.part.proofs.Laws.{part_between}
use Rattle.compact.specs.Compact.{Instruction, encode_one, encode_each, encode}
use Rattle.compact.specs.Entries.{meant, list_of}
use Rattle.compact.specs.Views.{entry_at, entries_from}

module _ (before : List ℕ) (i : Instruction) (rest : List ℕ) where
  accounts_lie : part_at (before ++ (encode_one i ++ rest)) (length before + 2) (length i.accounts) ≡ i.accounts
  unfolding encode_one
  accounts_lie =
      let first : List ℕ = before ++ i.program ∷ length i.accounts ∷ [] in
      let after : List ℕ = bytes_of 2 (length i.payload) ++ (i.payload ++ rest) in
      let split : before ++ (encode_one i ++ rest) ≡ first ++ (i.accounts ++ after) = simp append_assoc in
      let long : length first ≡ length before + 2 = simp length-append in
      ap (λ (s : List ℕ). part_at s (length before + 2) (length i.accounts)) split
      ∙ part_between first i.accounts after (length before + 2) (length i.accounts) long refl

  payload_lies : part_at (before ++ (encode_one i ++ rest)) (length before + 2 + length i.accounts + 2) (length i.payload) ≡ i.payload
  unfolding encode_one
  payload_lies =
      let at = length before + 2 + length i.accounts + 2 in
      let first : List ℕ = before ++ (i.program ∷ length i.accounts ∷ i.accounts ++ bytes_of 2 (length i.payload)) in
      let split : before ++ (encode_one i ++ rest) ≡ first ++ (i.payload ++ rest) = simp append_assoc in
      let long : length first ≡ at = simp (length-append, length-bytes_of) (omega arith) in
      ap (λ (s : List ℕ). part_at s at (length i.payload)) split ∙ part_between first i.payload rest at (length i.payload) long refl

  one_means : meant (before ++ (encode_one i ++ rest)) (entry_at (length before) i) ≡ i
  unfolding meant entry_at
  one_means =
      ap₂ {C = Instruction} (λ (a p : List ℕ). record { program = i.program; accounts = a; payload = p }) accounts_lie payload_lies

-- the first of some instructions lies at the place, and the others after it
pub here : (before : List ℕ) (i : Instruction) (is : List Instruction) (rest : List ℕ)
    → before ++ (encode_each (i ∷ is) ++ rest) ≡ before ++ (encode_one i ++ (encode_each is ++ rest))
unfolding encode_each
here before i is rest = rw append_assoc

pub after : (before : List ℕ) (i : Instruction) (is : List Instruction) (rest : List ℕ)
    → before ++ (encode_each (i ∷ is) ++ rest) ≡ before ++ encode_one i ++ (encode_each is ++ rest)
after before i is rest = here before i is rest ∙ sym (append_assoc before (encode_one i) (encode_each is ++ rest))

pub each_means : (before : List ℕ) (is : List Instruction) (rest : List ℕ) → map (meant (before ++ (encode_each is ++ rest))) (entries_from (length before) is) ≡ is
unfolding entries_from
each_means before [] rest = refl
each_means before (i ∷ is) rest =
    ap₂ ◌∷◌ (ap (λ (s : List ℕ). meant s (entry_at (length before) i)) (here before i is rest) ∙ one_means before i (encode_each is ++ rest))
    (ap (λ (s : List ℕ). map (meant s) (entries_from (length before + length (encode_one i)) is)) (after before i is rest)
    ∙ rw (← (length-append before (encode_one i))) (each_means (before ++ encode_one i) is rest))

-- the entries of a list whose encoding lies at the front of some bytes
module _ (is : List Instruction) (rest : List ℕ) where
  pub encoded_means : list_of (encode is ++ rest) (entries_from 1 is) ≡ is
  unfolding list_of encode
  encoded_means = each_means (length is ∷ []) is rest
