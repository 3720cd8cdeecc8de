-- What is promised of writing compact instructions, each a sentence over the definitions.
-- Assumes nothing.
use Prim.Native.Nat.{ℕ, ◌≤◌}
use mathlib.Core.Path.{◌≡◌, sym, ◌∙◌, subst}
use mathlib.Core.Bool.{true}
use mathlib.Core.List.{List, ◌++◌}
use lib.ListN.{length, take, drop}
use Rattle.answer.specs.Refusable.{Ok}
use Rattle.number.specs.Number.{Bytes}
use Rattle.compact.specs.declared.Entry.{Entry}
use Rattle.compact.specs.declared.ParsedInstructions.{ParsedInstructions}
use Rattle.compact.specs.Compact.{encode}
use Rattle.compact.specs.Entries.{entries_in, list_of}
use Rattle.compact.specs.Views.{entries_from, entries_of, reading}
use Rattle.compact.proofs.Places.{encoded_means}
use Rattle.compact.proofs.Lists.{reading_encoded, accepted_begins}
use Rattle.encoding.specs.Encoding.{encodable, writing, output_after}
use Rattle.encoding.proofs.Writing.{written}
use Rattle.encoding.proofs.Limits.{encodable_means}
use Rattle.encoding.proofs.RoundTrip.{GivenAgain, encoded_given_again, accepted_written}

pub writing_what_was_read_gives_the_consumed_bytes : (bytes out : List ℕ) (p : ParsedInstructions) → Bytes bytes → reading bytes ≡ Ok p
    → p.consumed ≤ length out
    → (writing (entries_in p.entries) bytes out ≡ Ok p.consumed)
    × (output_after (entries_in p.entries) bytes out ≡ take p.consumed bytes ++ drop p.consumed out)
writing_what_was_read_gives_the_consumed_bytes bytes out p hb h room =
    let a = accepted_begins bytes p hb h in
    let again = subst (λ (s : List ℕ). GivenAgain s out) (sym a.split) (encoded_given_again a.is a.rest out a.writable) in
    again p h room

pub reading_what_was_written_gives_the_same_list : (es : List Entry) (source out : List ℕ) (size : ℕ) → writing es source out ≡ Ok size
    → (p : ParsedInstructions) × (reading (output_after es source out) ≡ Ok p) × (p.consumed ≡ size)
    × (list_of (output_after es source out) (entries_in p.entries) ≡ list_of source es)
reading_what_was_written_gives_the_same_list es source out size h =
    let (keeps, room) = accepted_written es source out size h in
    let is = list_of source es in
    let rest = drop (length (encode is)) out in
    let done = written es source out keeps room in
    let limits = encodable_means source es keeps in
    let p : ParsedInstructions = record { entries = entries_of (entries_from 1 is); consumed = length (encode is) } in
    let long : length (encode is) ≡ size = let both = done.0 ∙ h in cc in
    rw (← done.1) (p, reading_encoded is rest limits.0 limits.1, long, encoded_means is rest)

-- entries that mean the same list are written as the same bytes
pub the_same_list_is_written_alike : (es fs : List Entry) (source other out : List ℕ) (size : ℕ) → list_of source es ≡ list_of other fs → encodable other fs ≡ true
    → writing es source out ≡ Ok size
    → (writing es source out ≡ writing fs other out) × (output_after es source out ≡ output_after fs other out)
the_same_list_is_written_alike es fs source other out size same hf h =
    let (he, room) = accepted_written es source out size h in
    let one = written es source out he room in
    let two = written fs other out hf (rw (← same) room) in
    (sym one.0 ∙ rw same two.0, sym one.1 ∙ rw same two.1)
