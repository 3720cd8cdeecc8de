-- The laws of writing, as the code goes: the limits of an entry, the size of an encoding, and the loop over the entries.
-- Assumes nothing.
use Prim.Native.Nat.{ℕ, suc, ◌+◌, ◌*◌, ◌<◌, ◌≤◌}
use mathlib.Core.Path.{◌≡◌, refl, sym, ◌∙◌}
use mathlib.Core.Bool.{Bool, true, false, ◌&&◌}
use Rattle.std.proofs.Math.Bool.{and-false}
use Rattle.std.proofs.lemmas.Bool.{and_parts}
use mathlib.Core.List.{List, [], ◌∷◌, ◌++◌, map}
use native.Mathlib.Nat.{add_assoc, add-zero, add-suc, suc-add}
use native.Mathlib.Numerals.{add-one, one-add}
use native.Mathlib.Omega.{arith}
use borrow.Author.Tests.{le-leb, lt-leb, leb-true, lt-ltb, le-ltb}
use lib.Dec.{leb}
use lib.ListN.{length, get_or, drop, set, length-append, length-map, drop_of_length-le}
use lib.Seq.{drop-cons, sets, sets-eq}
use Rattle.std.specs.Int.{w16, to_le_bytes}
use Rattle.answer.specs.declared.Refusal.{Refusal}
use Rattle.answer.specs.declared.Refusal.TheVariants.{NoRoom, NotEncodable}
use Rattle.answer.specs.Numbers.{first_refusal}
use Rattle.answer.specs.Refusable.{Refusable, Ok, Err}
use Rattle.number.specs.Number.{bytes_of}
use Rattle.part.proofs.Laws.{length_part_there}
use Rattle.compact.specs.declared.Entry.{Entry}
use Rattle.compact.specs.Compact.{Instruction, most_instructions, most_accounts, most_payload, encode_one, encode_each, encode}
use Rattle.compact.specs.Entries.{range_bytes, meant, list_of, within}
use Rattle.compact.proofs.Format.{length-encode_one}
use Rattle.encoding.specs.Encoding.{encodable_one, encodable_each, encodable, writing_answer, writing, output_after}
use Rattle.encoding.specs.Views.{size_if}

-- what it says that an entry keeps the limits
pub record Keeps (source : List ℕ) (e : Entry) : Type 0 where
  pub few : e.accounts.len ≤ most_accounts
  pub short : e.payload.len ≤ most_payload
  pub accounts : e.accounts.start + e.accounts.len ≤ length source
  pub payload : e.payload.start + e.payload.len ≤ length source

module _ (source : List ℕ) (e : Entry) where
  pub keeps : encodable_one source e ≡ true → Keeps source e
  unfolding encodable_one within
  keeps h =
      let few = leb e.accounts.len most_accounts in
      let short = leb e.payload.len most_payload in
      let accounts = leb (e.accounts.start + e.accounts.len) (length source) in
      let payload = leb (e.payload.start + e.payload.len) (length source) in
      let all = and_parts (few && short && accounts) payload h in
      let three = and_parts (few && short) accounts all.0 in
      let two = and_parts few short three.0 in
      record { few = leb-true _ _ two.0; short = leb-true _ _ two.1; accounts = leb-true _ _ three.1; payload = leb-true _ _ all.1 }

  pub length-meant : within source e.accounts ≡ true → within source e.payload ≡ true
      → length (encode_one (meant source e)) ≡ 4 + e.accounts.len + e.payload.len
  unfolding meant within
  length-meant ha hp =
      rw (
        length-encode_one,
        length_part_there source e.accounts.start e.accounts.len (leb-true _ _ ha),
        length_part_there source e.payload.start e.payload.len (leb-true _ _ hp),
      )

-- an entry that keeps the limits has its ranges' lengths
pub length_kept : (source : List ℕ) (e : Entry) → Keeps source e → length (encode_one (meant source e)) ≡ 4 + e.accounts.len + e.payload.len
unfolding within
length_kept source e k = length-meant source e (le-leb _ _ k.accounts) (le-leb _ _ k.payload)

pub length-encode : (is : List Instruction) → length (encode is) ≡ 1 + length (encode_each is)
unfolding encode
length-encode is = omega arith

-- what a size says, and what it says that there is none
pub sized : (t : Bool) (n size : ℕ) → size_if t n ≡ Ok size → (t ≡ true) × (n ≡ size)
unfolding size_if
sized true n size h = (refl, cc)
sized false n size h = (cc, cc)

pub not_sized : (t : Bool) (n : ℕ) (r : Refusal) → size_if t n ≡ Err r → (t ≡ false) × (r ≡ NotEncodable)
unfolding size_if
not_sized true n r h = (cc, cc)
not_sized false n r h = (refl, cc)

-- the size of an encoding, where so many bytes come before the entries that are left
unfoldable pub sizing_on : List ℕ → List Entry → ℕ → Refusable ℕ
sizing_on source es size = size_if (encodable_each source es) (size + length (encode_each (map (meant source) es)))

-- how far a list is sized: sizing on from the entry `i` gives what sizing from the first gives
pub record SizedSoFar (source : List ℕ) (es : List Entry) (i size : ℕ) : Type 0 where
  pub small : size ≤ 1 + (4 + most_accounts + most_payload) * i
  pub same : sizing_on source (drop i es) size ≡ size_if (encodable_each source es) (length (encode (list_of source es)))

pub sized_none : (source : List ℕ) (es : List Entry) → SizedSoFar source es 0 1
unfolding sizing_on encode list_of
sized_none source es = record { small = omega arith; same = rw one-add }

module _ {source : List ℕ} {es : List Entry} {i size : ℕ} (far : SizedSoFar source es i size) where
  pub sized_all : length es ≤ i → Ok size ≡ size_if (encodable_each source es) (length (encode (list_of source es)))
  unfolding sizing_on size_if encodable_each encode_each
  sized_all last = rw (drop_of_length-le es last, add-zero) at far.same

  -- what the next entry's size is
  module _ (more : i < length es) (d : Entry) (answer : Refusable ℕ)
      (is : answer ≡ size_if (encodable_one source (get_or es i d)) (length (encode_one (meant source (get_or es i d))))) where
    pub sized_short : (r : Refusal) → answer ≡ Err r → Err r ≡ size_if (encodable_each source es) (length (encode (list_of source es)))
    unfolding sizing_on size_if encodable_each
    sized_short r e =
        let no = not_sized _ _ r (sym is ∙ e) in
        rw no.1 (rw (drop-cons es i d more, no.0) at far.same)

    pub one_small : (n : ℕ) → answer ≡ Ok n → n ≤ 4 + most_accounts + most_payload
    one_small n e =
        let s = sized _ _ n (sym is ∙ e) in
        let k = keeps source (get_or es i d) s.0 in
        omega (arith, s.1, k.few, k.short, length_kept source (get_or es i d) k)

    pub sized_one : (n : ℕ) → answer ≡ Ok n → SizedSoFar source es (i + 1) (size + n)
    unfolding sizing_on size_if encodable_each encode_each
    sized_one n e =
        let s = sized _ _ n (sym is ∙ e) in
        record {
          small = omega (arith, far.small, one_small n e);
          same = rw (add-one, add_assoc) (rw (drop-cons es i d more, s.0, length-append, s.1) at far.same);
        }

module _ {A : Type 0} where
  -- a run of stores and another one after it are one run
  pub sets-append : (xs ys l : List A) (i : ℕ) → sets (sets l i xs) (i + length xs) ys ≡ sets l i (xs ++ ys)
  sets-append [] ys l i = rw add-zero
  sets-append (x ∷ xs) ys l i = rw (add-suc, ← (suc-add i (length xs))) (sets-append xs ys (set l i x) (suc i))

  -- stores that are made each at the end of the one before
  pub four_runs : (a b c e l : List A) (i j k m : ℕ) → j ≡ i + length a → k ≡ j + length b → m ≡ k + length c
      → sets (sets (sets (sets l i a) j b) k c) m e ≡ sets l i (a ++ b ++ c ++ e)
  four_runs a b c e l i j k m p q r =
      rw (r, q, p, sets-append a b l i, add_assoc i (length a) (length b), ← (length-append a b), sets-append (a ++ b) c l i)
      (rw (add_assoc i (length (a ++ b)) (length c), ← (length-append (a ++ b) c)) (sets-append (a ++ b ++ c) e l i))

-- the stores that write an entry are the run that writes its instruction's encoding
pub one_stored : (source : List ℕ) (e : Entry) (out : List ℕ) (at j k m : ℕ) → j ≡ at + 2 → k ≡ j + length (range_bytes source e.accounts) → m ≡ k + 2
    → sets
    (sets
    (sets (sets out at (e.program ∷ length (range_bytes source e.accounts) ∷ [])) j (range_bytes source e.accounts))
    k
    (to_le_bytes w16 (length (range_bytes source e.payload))))
    m
    (range_bytes source e.payload)
    ≡ sets out at (encode_one (meant source e))
unfolding encode_one meant bytes_of
one_stored source e out at j k m p q r =
    let accounts = range_bytes source e.accounts in
    let payload = range_bytes source e.payload in
    four_runs (e.program ∷ length accounts ∷ []) accounts (bytes_of 2 (length payload)) payload out at j k m p q r

-- the bytes that are left to store, of the entries from `i` on
unfoldable pub left_to_store : List ℕ → List Entry → ℕ → List ℕ
left_to_store source es i = encode_each (map (meant source) (drop i es))

-- how far a list is written: storing what is left at the place gives what storing all of it at the front gives
pub record StoredSoFar (source : List ℕ) (es : List Entry) (before out : List ℕ) (at i : ℕ) : Type 0 where
  pub keep : encodable_each source (drop i es) ≡ true
  pub place : at + length (left_to_store source es i) ≡ length (encode (list_of source es))
  pub same : sets out at (left_to_store source es i) ≡ sets before 0 (encode (list_of source es))

pub stored_none : (source : List ℕ) (es : List Entry) (before : List ℕ) → encodable_each source es ≡ true
    → StoredSoFar source es before (sets before 0 (length es ∷ [])) 1 0
unfolding left_to_store encode list_of
stored_none source es before keep = record { keep = keep; place = one-add _; same = rw length-map }

module _ {source : List ℕ} {es : List Entry} {before out : List ℕ} {at i : ℕ} (far : StoredSoFar source es before out at i) where
  pub stored_all : length es ≤ i → (at ≡ length (encode (list_of source es))) × (out ≡ sets before 0 (encode (list_of source es)))
  unfolding left_to_store encode_each
  stored_all last =
      let none = drop_of_length-le es last in
      (rw (none, add-zero) at far.place, rw none at far.same)

  -- the next entry
  module _ (more : i < length es) (d : Entry) where
    next_keeps : (encodable_one source (get_or es i d) && encodable_each source (drop (suc i) es)) ≡ true
    unfolding encodable_each
    next_keeps = rw (drop-cons es i d more) at far.keep

    next_left : left_to_store source es i ≡ encode_one (meant source (get_or es i d)) ++ left_to_store source es (suc i)
    unfolding left_to_store encode_each
    next_left = rw (drop-cons es i d more)

    pub next_encodable : encodable_one source (get_or es i d) ≡ true
    next_encodable = (and_parts (encodable_one source (get_or es i d)) _ next_keeps).0

    pub next_fits : (room : ℕ) → length (encode (list_of source es)) ≤ room → at + length (encode_one (meant source (get_or es i d))) ≤ room
    next_fits room h = let long = rw (next_left, length-append) at far.place in omega (arith, long)

    pub stored_one : (next : ℕ) → next ≡ at + length (encode_one (meant source (get_or es i d)))
        → StoredSoFar source es before (sets out at (encode_one (meant source (get_or es i d)))) next (i + 1)
    stored_one next e =
        record {
          keep = rw add-one (and_parts (encodable_one source (get_or es i d)) _ next_keeps).1;
          place = let long = rw (next_left, length-append) at far.place in rw (e, add-one) (omega (arith, long));
          same = rw (e, add-one, sets-append) (rw next_left at far.same);
        }

-- whether a list keeps the limits, as the tests go
module _ (es : List Entry) (source : List ℕ) where
  pub writing_too_many : most_instructions < length es → encodable source es ≡ false
  unfolding encodable
  writing_too_many h = rw (lt-leb _ _ h)

  pub writing-breaks : encodable_each source es ≡ false → encodable source es ≡ false
  unfolding encodable
  writing-breaks h = rw (h, and-false)

  pub writing-keeps : length es ≤ most_instructions → encodable_each source es ≡ true → encodable source es ≡ true
  unfolding encodable
  writing-keeps few h = rw (le-leb _ _ few, h)

-- writing, by the first refusal
module _ (es : List Entry) (source out : List ℕ) where
  pub not_encodable_lem : encodable source es ≡ false → (Err NotEncodable ≡ writing es source out) × (out ≡ output_after es source out)
  unfolding writing output_after writing_answer first_refusal
  not_encodable_lem h = (rw h, rw h)

  pub no_room_lem : encodable source es ≡ true → length out < length (encode (list_of source es))
      → (Err NoRoom ≡ writing es source out) × (out ≡ output_after es source out)
  unfolding writing output_after writing_answer first_refusal
  no_room_lem h short = (rw (h, lt-ltb _ _ short), rw (h, lt-ltb _ _ short))

  pub written : encodable source es ≡ true → length (encode (list_of source es)) ≤ length out
      → (Ok (length (encode (list_of source es))) ≡ writing es source out)
      × (encode (list_of source es) ++ drop (length (encode (list_of source es))) out ≡ output_after es source out)
  unfolding writing output_after writing_answer first_refusal
  written h room = (rw (h, le-ltb _ _ room), rw (h, le-ltb _ _ room))

  -- the run that writes the encoding
  pub all_stored : length (encode (list_of source es)) ≤ length out
      → sets out 0 (encode (list_of source es)) ≡ encode (list_of source es) ++ drop (length (encode (list_of source es))) out
  all_stored room =
      let none : 0 + length (encode (list_of source es)) ≡ length (encode (list_of source es)) = omega arith in
      rw none at (sets-eq (encode (list_of source es)) out 0 (rw none room))
