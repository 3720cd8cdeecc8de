-- The laws of whole lists, on which the theorems stand: writing what was read, and what it says that writing accepted.
-- Assumes nothing.
use Prim.Native.Nat.{ℕ, ◌≤◌}
use mathlib.Core.Path.{◌≡◌, refl, sym, ◌∙◌}
use mathlib.Core.Bool.{Bool, true, false}
use mathlib.Core.List.{List, ◌++◌}
use native.Mathlib.Omega.{arith}
use borrow.Author.Tests.{leb-true, leb-false}
use lib.Dec.{leb}
use lib.ListN.{length, take, drop}
use lib.Seq.{take-append_seam}
use Rattle.answer.specs.declared.Refusal.{Refusal}
use Rattle.answer.specs.declared.Refusal.TheVariants.{NoRoom, NotEncodable}
use Rattle.answer.specs.Refusable.{Ok, Err}
use Rattle.compact.specs.declared.Entry.{Entry}
use Rattle.compact.specs.declared.ParsedInstructions.{ParsedInstructions}
use Rattle.compact.specs.Compact.{Instruction, Writable, encode}
use Rattle.compact.specs.Entries.{entries_in, list_of}
use Rattle.compact.specs.Views.{entries_from, entries_of, reading}
use Rattle.compact.proofs.Places.{encoded_means}
use Rattle.compact.proofs.Lists.{short, reading_encoded}
use Rattle.encoding.specs.Encoding.{encodable, writing, output_after}
use Rattle.encoding.proofs.Writing.{not_encodable_lem, no_room_lem, written}
use Rattle.encoding.proofs.Limits.{encoded_keeps}

-- writing the entries of a list whose encoding lies at the front of the source
writing_encoded : (is : List Instruction) (rest out : List ℕ) → Writable is → length (encode is) ≤ length out
    → (writing (entries_from 1 is) (encode is ++ rest) out ≡ Ok (length (encode is)))
    × (output_after (entries_from 1 is) (encode is ++ rest) out ≡ encode is ++ drop (length (encode is)) out)
writing_encoded is rest out h room =
    let means = encoded_means is rest in
    let done = written (entries_from 1 is) (encode is ++ rest) out (encoded_keeps is rest h.few h.each) (rw means room) in
    (sym (rw means at done.0), sym (rw means at done.1))

-- what it is that writing gives again what was read
abbrev pub GivenAgain : List ℕ → List ℕ → Type 0
GivenAgain bytes out =
    (p : ParsedInstructions) → reading bytes ≡ Ok p → p.consumed ≤ length out
    → (writing (entries_in p.entries) bytes out ≡ Ok p.consumed)
    × (output_after (entries_in p.entries) bytes out ≡ take p.consumed bytes ++ drop p.consumed out)

pub encoded_given_again : (is : List Instruction) (rest out : List ℕ) → Writable is → GivenAgain (encode is ++ rest) out
encoded_given_again is rest out h p e =
    let read : ParsedInstructions = record { entries = entries_of (entries_from 1 is); consumed = length (encode is) } in
    let same : read ≡ p = let both = sym (reading_encoded is rest h.few (short is h.each)) ∙ e in cc in
    rw (← same, take-append_seam) (writing_encoded is rest out h)

-- what it says that writing accepted
pub accepted_written : (es : List Entry) (source out : List ℕ) (size : ℕ) → writing es source out ≡ Ok size
    → (encodable source es ≡ true) × (length (encode (list_of source es)) ≤ length out)
accepted_written es source out size h = go (encodable source es) refl (leb (length (encode (list_of source es))) (length out)) refl
  where
    no : (r : Refusal) → Err r ≡ writing es source out → ⊥
    no r e = let both = e ∙ h in let z : ◌≡◌ {A = ℕ} 0 1 = cc in omega arith

    go : (t : Bool) → encodable source es ≡ t → (s : Bool) → leb (length (encode (list_of source es))) (length out) ≡ s
        → (encodable source es ≡ true) × (length (encode (list_of source es)) ≤ length out)
    go false e s k = absurd (no NotEncodable (not_encodable_lem es source out e).0)
    go true e false k = absurd (no NoRoom (no_room_lem es source out e (leb-false _ _ k)).0)
    go true e true k = (e, leb-true _ _ k)
