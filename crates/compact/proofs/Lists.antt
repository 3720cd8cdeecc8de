-- The laws of whole lists, on which the theorems stand: decoding what was encoded, and reading it.
-- Assumes nothing.
use Prim.Native.Nat.{ℕ, zero, suc, ◌+◌, ◌-◌, ◌≤◌}
use mathlib.Core.Path.{◌≡◌, refl, sym, ap, ◌∙◌}
use mathlib.Core.Bool.{Bool, true, false}
use mathlib.Core.List.{List, [], ◌∷◌, ◌++◌}
use mathlib.Core.Option.{Option, none, some, none-ne-some}
use native.Mathlib.Omega.{arith}
use borrow.Author.Tests.{leb-true, leb-false}
use lib.Dec.{leb}
use lib.ListN.{length, length-append}
use Rattle.answer.specs.Each.{Each}
use Rattle.answer.proofs.Each.{each_so}
use Rattle.answer.specs.declared.Refusal.TheVariants.{InvalidInstructionData}
use Rattle.answer.specs.Refusable.{Ok, Err}
use Rattle.number.specs.Number.{Bytes, bytes_of}
use Rattle.number.proofs.Laws.{bytes_append, bytes_of_bytes}
use Rattle.compact.specs.declared.ParsedInstructions.{ParsedInstructions}
use Rattle.compact.specs.Compact.{Instruction, WritableOne, Writable, BeginsWithAList, most_instructions, most_accounts, most_payload, Read, encode_one, encode_each, encode, byte, decode_each, decode}
use Rattle.compact.specs.Views.{entries_from, entries_of, reading_refused, reading}
use Rattle.compact.proofs.Format.{each_encoded, each_again, each_count, decode_count, decode_too_many}
use Rattle.compact.proofs.Reading.{outcome, reading_of}

-- a list that was read from bytes is its count and that many instructions
pub decoded : (bytes : List ℕ) (r : Read (List Instruction)) → decode bytes ≡ some r
    → (count : ℕ) × (after : List ℕ) × (bytes ≡ count ∷ after) × (count ≤ most_instructions) × (decode_each count after ≡ some r)
unfolding decode byte
decoded [] r h = absurd (none-ne-some r h)
decoded (count ∷ after) r h = go (leb count most_instructions) refl
  where
    go : (t : Bool) → leb count most_instructions ≡ t → (n : ℕ) × (s : List ℕ) × (count ∷ after ≡ n ∷ s) × (n ≤ most_instructions) × (decode_each n s ≡ some r)
    go true e = let few = leb-true count most_instructions e in (count, after, refl, few, sym (decode_count count after few) ∙ h)
    go false e = absurd (none-ne-some r (sym (decode_too_many count after (leb-false count most_instructions e)) ∙ h))

-- decoding what was encoded gives the list, and leaves exactly what follows; this wants the count and the data's lengths alone
pub decode_encoded : (is : List Instruction) (rest : List ℕ) → length is ≤ most_instructions
    → Each (λ (i : Instruction). length i.payload ≤ most_payload) is → decode (encode is ++ rest) ≡ some (record { value = is; rest = rest })
unfolding encode
decode_encoded is rest few h = decode_count (length is) (encode_each is ++ rest) few ∙ each_encoded is rest h

pub short : (is : List Instruction) → Each WritableOne is → Each (λ (i : Instruction). length i.payload ≤ most_payload) is
short is h = each_so (λ i w. w.short) is h

pub encoded_again : (bytes : List ℕ) (r : Read (List Instruction)) → Bytes bytes → decode bytes ≡ some r → encode r.value ++ r.rest ≡ bytes
unfolding encode
encoded_again bytes r hb h =
    let (count, after, split, few, e) = decoded bytes r h in
    let inside : Bytes (count ∷ after) = rw split at hb in
    rw (split, each_count count after r e) (ap (λ (s : List ℕ). count ∷ s) (each_again count after r (λ i. inside (suc i)) e).0)

pub decoded_writable : (bytes : List ℕ) (r : Read (List Instruction)) → Bytes bytes → decode bytes ≡ some r → Writable r.value
decoded_writable bytes r hb h =
    let (count, after, split, few, e) = decoded bytes r h in
    let inside : Bytes (count ∷ after) = rw split at hb in
    record { few = rw (each_count count after r e) few; each = (each_again count after r (λ i. inside (suc i)) e).1 }

one_bytes : (i : Instruction) → WritableOne i → Bytes (encode_one i)
unfolding encode_one most_accounts
one_bytes i h zero = h.program
one_bytes i h (suc zero) = omega (arith, h.few)
one_bytes i h (suc (suc j)) =
    bytes_append (i.accounts ++ bytes_of 2 (length i.payload)) i.payload
    (bytes_append i.accounts (bytes_of 2 (length i.payload)) h.indexes (bytes_of_bytes 2 (length i.payload)))
    h.bytes
    j

pub each_bytes : (is : List Instruction) → Each WritableOne is → Bytes (encode_each is)
unfolding encode_each
each_bytes [] h j = omega arith
each_bytes (i ∷ is) h j = bytes_append (encode_one i) (encode_each is) (one_bytes i h.0) (each_bytes is h.1) j

-- reading gives the entries of the list that was encoded, and consumes exactly its encoding, whatever follows
pub reading_encoded : (is : List Instruction) (rest : List ℕ) → length is ≤ most_instructions
    → Each (λ (i : Instruction). length i.payload ≤ most_payload) is
    → reading (encode is ++ rest) ≡ Ok (record { entries = entries_of (entries_from 1 is); consumed = length (encode is) })
unfolding outcome
reading_encoded is rest few h =
    let all : length (encode is) + length rest - length rest ≡ length (encode is) = omega arith in
    reading_of (encode is ++ rest) (some (record { value = is; rest = rest })) (decode_encoded is rest few h)
    ∙ rw (length-append, all)

pub accepted_begins : (bytes : List ℕ) (p : ParsedInstructions) → Bytes bytes → reading bytes ≡ Ok p → BeginsWithAList bytes
unfolding outcome reading_refused
accepted_begins bytes p hb h = go (decode bytes) refl
  where
    go : (o : Option (Read (List Instruction))) → decode bytes ≡ o → BeginsWithAList bytes
    go none e = let no : Err InvalidInstructionData ≡ Ok p = sym (reading_of bytes none e) ∙ h in absurd (let z : ◌≡◌ {A = ℕ} 0 1 = cc in omega arith)
    go (some r) e =
        record { is = r.value; rest = r.rest; split = sym (encoded_again bytes r hb e); writable = decoded_writable bytes r hb e }
