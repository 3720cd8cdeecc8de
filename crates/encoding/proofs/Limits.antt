-- The laws of the limits: the entries of a list whose encoding lies in some bytes keep them, and what entries that keep them mean.
-- Assumes nothing.
use Prim.Native.Nat.{ℕ, ◌+◌, ◌≤◌}
use mathlib.Core.Path.{◌≡◌, refl}
use mathlib.Core.Bool.{true}
use mathlib.Core.List.{List, [], ◌∷◌, ◌++◌, map}
use native.Mathlib.Omega.{arith}
use borrow.Author.Tests.{le-leb, leb-true}
use lib.Dec.{leb}
use lib.ListN.{length, length-append, length-map}
use Rattle.std.proofs.lemmas.Bool.{and_parts}
use Rattle.answer.specs.Each.{Each}
use Rattle.part.proofs.Laws.{length_part_there}
use Rattle.compact.specs.declared.Entry.{Entry}
use Rattle.compact.specs.Compact.{Instruction, WritableOne, most_instructions, most_accounts, most_payload, encode_one, encode_each, encode}
use Rattle.compact.specs.Entries.{meant, list_of, within}
use Rattle.compact.specs.Views.{entry_at, entries_from}
use Rattle.compact.proofs.Format.{length-encode_one}
use Rattle.compact.proofs.Reading.{length_placed}
use Rattle.compact.proofs.Places.{here, after}
use Rattle.encoding.specs.Encoding.{encodable_one, encodable_each, encodable}
use Rattle.encoding.proofs.Writing.{keeps, writing-keeps}

module _ (before : List ℕ) (i : Instruction) (rest : List ℕ) where
  one-keeps : WritableOne i → encodable_one (before ++ (encode_one i ++ rest)) (entry_at (length before) i) ≡ true
  unfolding encodable_one within entry_at
  one-keeps h =
      let n = length i.accounts in
      let k = length i.payload in
      let whole = length (before ++ (encode_one i ++ rest)) in
      let long : whole ≡ length before + (4 + n + k + length rest) = simp (length-append, length-encode_one) (omega arith) in
      rw (
        le-leb n most_accounts h.few,
        le-leb k most_payload h.short,
        le-leb (length before + 2 + n) whole (omega arith),
        le-leb (length before + 2 + n + 2 + k) whole (omega arith),
      )

pub each_keeps : (before : List ℕ) (is : List Instruction) (rest : List ℕ) → Each WritableOne is
    → encodable_each (before ++ (encode_each is ++ rest)) (entries_from (length before) is) ≡ true
unfolding entries_from encodable_each
each_keeps before [] rest h = refl
each_keeps before (i ∷ is) rest h =
    let bytes = before ++ (encode_each (i ∷ is) ++ rest) in
    let next = length before + length (encode_one i) in
    let now = one-keeps before i (encode_each is ++ rest) h.0 in
    let then = each_keeps (before ++ encode_one i) is rest h.1 in
    let this : encodable_one bytes (entry_at (length before) i) ≡ true = rw (here before i is rest) now in
    let those : encodable_each bytes (entries_from next is) ≡ true = rw (after before i is rest, ← (length-append before (encode_one i))) then in
    rw (this, those)

-- the entries of a list whose encoding lies at the front of some bytes
pub encoded_keeps : (is : List Instruction) (rest : List ℕ) → length is ≤ most_instructions → Each WritableOne is → encodable (encode is ++ rest) (entries_from 1 is) ≡ true
unfolding encode
encoded_keeps is rest few h = writing-keeps (entries_from 1 is) (encode is ++ rest) (rw (length_placed 1 is) few) (each_keeps (length is ∷ []) is rest h)

-- an entry that keeps the limits means an instruction whose data is no longer than they say
meant_short : (source : List ℕ) (es : List Entry) → encodable_each source es ≡ true
    → Each (λ (i : Instruction). length i.payload ≤ most_payload) (map (meant source) es)
unfolding encodable_each meant
meant_short source [] h = tt
meant_short source (e ∷ es) h =
    let this = encodable_one source e in
    let those = encodable_each source es in
    let both = and_parts this those h in
    let k = keeps source e both.0 in
    (rw (length_part_there source e.payload.start e.payload.len k.payload) k.short, meant_short source es both.1)

pub encodable_means : (source : List ℕ) (es : List Entry) → encodable source es ≡ true
    → (length (list_of source es) ≤ most_instructions) × Each (λ (i : Instruction). length i.payload ≤ most_payload) (list_of source es)
unfolding encodable list_of
encodable_means source es h =
    let few = leb (length es) most_instructions in
    let each = encodable_each source es in
    let both = and_parts few each h in
    (rw length-map (leb-true (length es) most_instructions both.0), meant_short source es both.1)
