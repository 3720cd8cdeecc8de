-- What is promised of compact instructions, each a sentence over the definitions.
-- Assumes nothing.
use Prim.Native.Nat.{ℕ, zero, suc, ◌+◌, ◌<◌}
use mathlib.Core.Path.{◌≡◌, sym, ap, ◌∙◌}
use mathlib.Core.List.{List, ◌++◌}
use mathlib.Core.Option.{none, some, some-injective}
use native.Mathlib.Omega.{arith}
use lib.ListN.{length, take, length-append}
use Rattle.answer.specs.Refusable.{Refusable, Ok, change}
use Rattle.answer.specs.Outcome.{one-outcome}
use Rattle.number.specs.Number.{Bytes}
use Rattle.compact.specs.declared.ParsedInstructions.{ParsedInstructions}
use Rattle.compact.specs.Compact.{Instruction, Writable, BeginsWithAList, most_instructions, Read, encode, decode_one, decode}
use Rattle.compact.specs.Entries.{entries_in, list_of}
use Rattle.compact.specs.Views.{entries_from, entries_of, reading}
use Rattle.compact.proofs.Format.{one_extends, each_extends, needs_all, decode_count}
use Rattle.compact.proofs.Places.{encoded_means}
use Rattle.compact.proofs.Lists.{decoded, decode_encoded, short, encoded_again, decoded_writable, each_bytes, reading_encoded, accepted_begins}

pub decode-encode : (is : List Instruction) (rest : List ℕ) → Writable is → decode (encode is ++ rest) ≡ some (record { value = is; rest = rest })
decode-encode is rest h = decode_encoded is rest h.few (short is h.each)

pub encode-decode : (bytes : List ℕ) (r : Read (List Instruction)) → Bytes bytes → decode bytes ≡ some r → encode r.value ++ r.rest ≡ bytes
encode-decode = encoded_again

pub what_was_decoded_is_writable : (bytes : List ℕ) (r : Read (List Instruction)) → Bytes bytes → decode bytes ≡ some r → Writable r.value
what_was_decoded_is_writable = decoded_writable

pub what_is_encoded_is_bytes : (is : List Instruction) → Writable is → Bytes (encode is)
unfolding encode most_instructions
what_is_encoded_is_bytes is h zero = omega (arith, h.few)
what_is_encoded_is_bytes is h (suc j) = each_bytes is h.each j

-- no two lists share an encoding, and none is the beginning of another's
pub bytes_begin_with_one_list_alone : (is js : List Instruction) (xs ys : List ℕ) → Writable is → Writable js
    → encode is ++ xs ≡ encode js ++ ys → (is ≡ js) × (xs ≡ ys)
bytes_begin_with_one_list_alone is js xs ys hi hj e =
    let same = some-injective _ _ (sym (decode-encode is xs hi) ∙ ap decode e ∙ decode-encode js ys hj) in
    (ap (λ (r : Read (List Instruction)). r.value) same, ap (λ (r : Read (List Instruction)). r.rest) same)

pub reading_what_was_encoded : (is : List Instruction) (rest : List ℕ) → Writable is
    → reading (encode is ++ rest) ≡ Ok (record { entries = entries_of (entries_from 1 is); consumed = length (encode is) })
reading_what_was_encoded is rest h = reading_encoded is rest h.few (short is h.each)

pub what_reading_accepts_begins_with_a_list : (bytes : List ℕ) (p : ParsedInstructions) → Bytes bytes → reading bytes ≡ Ok p → BeginsWithAList bytes
what_reading_accepts_begins_with_a_list = accepted_begins

-- the ranges that reading answers with name the bytes of the list that they stand for, and all but the rest is consumed
pub what_reading_answers_with_means_the_decoded_list : (bytes : List ℕ) (r : Read (List Instruction)) → Bytes bytes → decode bytes ≡ some r
    → (p : ParsedInstructions) × (reading bytes ≡ Ok p) × (list_of bytes (entries_in p.entries) ≡ r.value) × (p.consumed + length r.rest ≡ length bytes)
what_reading_answers_with_means_the_decoded_list bytes r hb h =
    let p : ParsedInstructions = record { entries = entries_of (entries_from 1 r.value); consumed = length (encode r.value) } in
    rw (← (encode-decode bytes r hb h))
    (p, reading_what_was_encoded r.value r.rest (what_was_decoded_is_writable bytes r hb h), encoded_means r.value r.rest, sym (length-append (encode r.value) r.rest))

-- whatever meets the contract of reading gives one list and one count of bytes consumed, or refuses alike
pub reading_determines_the_list_and_the_count : (bytes : List ℕ) (x y : Refusable ParsedInstructions) → x ≡ reading bytes → y ≡ reading bytes
    → (change (λ (p : ParsedInstructions). list_of bytes (entries_in p.entries)) x ≡ change (λ (p : ParsedInstructions). list_of bytes (entries_in p.entries)) y)
    × (change (λ (p : ParsedInstructions). p.consumed) x ≡ change (λ (p : ParsedInstructions). p.consumed) y)
reading_determines_the_list_and_the_count bytes x y hx hy =
    let same = one-outcome hx hy in
    (ap (change (λ (p : ParsedInstructions). list_of bytes (entries_in p.entries))) same, ap (change (λ (p : ParsedInstructions). p.consumed)) same)

-- for a reader that takes the bytes in pieces: one instruction, and the list
pub more_bytes_do_not_change_the_first_instruction : (bytes more : List ℕ) (r : Read Instruction) → decode_one bytes ≡ some r
    → decode_one (bytes ++ more) ≡ some (record { value = r.value; rest = r.rest ++ more })
more_bytes_do_not_change_the_first_instruction = one_extends

pub fewer_bytes_than_the_first_instruction_give_none : (bytes : List ℕ) (r : Read Instruction) (n : ℕ) → decode_one bytes ≡ some r
    → n + length r.rest < length bytes → decode_one (take n bytes) ≡ none
fewer_bytes_than_the_first_instruction_give_none = needs_all decode_one one_extends

pub more_bytes_do_not_change_the_list : (bytes more : List ℕ) (r : Read (List Instruction)) → decode bytes ≡ some r
    → decode (bytes ++ more) ≡ some (record { value = r.value; rest = r.rest ++ more })
more_bytes_do_not_change_the_list bytes more r h =
    let (count, after, split, few, e) = decoded bytes r h in
    rw split (decode_count count (after ++ more) few ∙ each_extends count after more r e)

pub fewer_bytes_than_the_list_give_none : (bytes : List ℕ) (r : Read (List Instruction)) (n : ℕ) → decode bytes ≡ some r
    → n + length r.rest < length bytes → decode (take n bytes) ≡ none
fewer_bytes_than_the_list_give_none = needs_all decode more_bytes_do_not_change_the_list
