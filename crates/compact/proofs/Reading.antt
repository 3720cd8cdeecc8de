-- The laws of reading, as the code goes: an instruction at a place, and the loop over the count.
-- Assumes nothing.
use Prim.Native.Nat.{ℕ, suc, ◌+◌, ◌-◌, ◌<◌, ◌≤◌}
use mathlib.Core.Path.{◌≡◌, refl, sym, ap, ◌∙◌}
use mathlib.Core.List.{List, [], ◌∷◌, ◌++◌, append-nil, append_assoc}
use mathlib.Core.Option.{Option, none, some}
use native.Mathlib.Nat.{sub-zero}
use native.Mathlib.Omega.{arith}
use lib.ListN.{length, get_or, take, drop, length-append, length-drop}
use lib.Seq.{drop-drop, get_or-drop, take_at, drop_at}
use Rattle.answer.specs.declared.Refusal.{Refusal}
use Rattle.answer.specs.declared.Refusal.TheVariants.{InvalidInstructionData}
use Rattle.answer.specs.Refusable.{Refusable, Ok, Err}
use Rattle.number.specs.Number.{number, number_at}
use Rattle.number.proofs.Laws.{number_there}
use Rattle.compact.specs.declared.Entry.{Entry}
use Rattle.compact.specs.declared.ParsedInstructions.{ParsedInstructions}
use Rattle.compact.specs.Compact.{Instruction, Read, ◌>>=◌, byte, most_instructions, encode_one, decode_one, decode_each, decode}
use Rattle.compact.specs.Views.{entry_at, entries_from, entries_of, reading_refused, reading, head_of}
use Rattle.compact.proofs.Parts.{length_part, cut, two_off}
use Rattle.compact.proofs.Format.{Lies, lies_is_read, read_lies, one_size, one_rest, length-encode_one, decode_count, decode_too_many}

past_head : (p n : ℕ) (accounts after s : List ℕ) → length accounts ≡ n → s ≡ p ∷ n ∷ accounts ++ after → drop (2 + n) s ≡ after
past_head p n accounts after s many split =
    ap (λ (l : List ℕ). drop (2 + n) l) split ∙ drop_at (p ∷ n ∷ accounts) after (2 + n) (omega arith)

module _ (bytes : List ℕ) (at : ℕ) where
  -- what the bytes say at a place where an instruction was read
  record Says (r : Read Instruction) : Type 0 where
    count : get_or bytes (at + 1) 0 ≡ length r.value.accounts
    size : number (take 2 (drop (at + 2 + get_or bytes (at + 1) 0) bytes)) ≡ length r.value.payload
    long : 4 + length r.value.accounts + length r.value.payload + length r.rest ≡ length bytes - at

  says : (r : Read Instruction) → decode_one (drop at bytes) ≡ some r → Says r
  says r h =
      let l = read_lies (drop at bytes) r h in
      let i = r.value in
      let n = length i.accounts in
      let after = l.size ++ (i.payload ++ r.rest) in
      let count : get_or bytes (at + 1) 0 ≡ n = sym (get_or-drop at bytes 1 0) ∙ ap (λ (s : List ℕ). get_or s 1 0) l.split in
      let sum : at + 2 + n ≡ at + (2 + n) = omega arith in
      let past : drop (2 + n) (drop at bytes) ≡ after = past_head i.program n i.accounts after (drop at bytes) refl l.split in
      let from : drop (at + 2 + n) bytes ≡ after = ap (λ (k : ℕ). drop k bytes) sum ∙ sym (drop-drop (2 + n) at bytes) ∙ past in
      record {
        count = count;
        size = rw (count, from, take_at l.size (i.payload ++ r.rest) 2 l.two) l.says;
        long = omega (arith, one_size (drop at bytes) r h, length-encode_one i, length-drop at bytes);
      }

  nothing : ((r : Read Instruction) → decode_one (drop at bytes) ≡ some r → ⊥) → head_of at (decode_one (drop at bytes)) ≡ Err InvalidInstructionData
  unfolding head_of
  nothing no_one = go (decode_one (drop at bytes)) refl
    where
      go : (o : Option (Read Instruction)) → decode_one (drop at bytes) ≡ o → head_of at o ≡ Err InvalidInstructionData
      go none e = refl
      go (some r) e = absurd (no_one r e)

  pub head_accounts_short : length bytes < at + 4 + get_or bytes (at + 1) 0 → head_of at (decode_one (drop at bytes)) ≡ Err InvalidInstructionData
  head_accounts_short short = nothing (λ r h. let s = says r h in omega (arith, s.count, s.long))

  pub head_payload_short : (size : ℕ) → size ≡ number_at 2 bytes (at + 2 + get_or bytes (at + 1) 0)
      → length bytes < at + 4 + get_or bytes (at + 1) 0 + size → head_of at (decode_one (drop at bytes)) ≡ Err InvalidInstructionData
  head_payload_short size e short = nothing (λ r h. let s = says r h in
      omega (arith, s.count, s.long, s.size, number_there 2 bytes (at + 2 + get_or bytes (at + 1) 0) (omega (arith, s.count, s.long))))

  module _ (size : ℕ) (e : size ≡ number_at 2 bytes (at + 2 + get_or bytes (at + 1) 0))
      (fits : at + 4 + get_or bytes (at + 1) 0 + size ≤ length bytes) where
    count : ℕ
    count = get_or bytes (at + 1) 0

    there : Read Instruction
    there =
        record {
          value =
              record {
                program = get_or bytes at 0;
                accounts = take count (drop (at + 2) bytes);
                payload = take size (drop (at + 2 + count + 2) bytes);
              };
          rest = drop (at + 2 + count + 2 + size) bytes;
        }

    there_lies : Lies (drop at bytes) there
    unfolding count there
    there_lies =
        record {
          size = take 2 (drop (at + 2 + count) bytes);
          two = length_part 2 (at + 2 + count) bytes (omega arith);
          says =
              sym (number_there 2 bytes (at + 2 + count) (omega arith)) ∙ sym e
              ∙ sym (length_part size (at + 2 + count + 2) bytes (omega arith));
          split =
              two_off at bytes (omega arith)
              ∙ rw (
                length_part count (at + 2) bytes (omega arith),
                cut size (at + 2 + count + 2) bytes,
                cut 2 (at + 2 + count) bytes,
                cut count (at + 2) bytes,
              );
        }

    pub head_there : head_of at (decode_one (drop at bytes))
        ≡ Ok (
          record {
            program = get_or bytes at 0;
            accounts = record { start = at + 2; len = get_or bytes (at + 1) 0 };
            payload = record { start = at + 2 + get_or bytes (at + 1) 0 + 2; len = size };
          },
          at + 2 + get_or bytes (at + 1) 0 + 2 + size,
        )
    unfolding head_of entry_at count there
    head_there =
        let accounts = length_part count (at + 2) bytes (omega arith) in
        let payload = length_part size (at + 2 + count + 2) bytes (omega arith) in
        let sum : at + (4 + count + size) ≡ at + 2 + count + 2 + size = omega arith in
        rw (lies_is_read (drop at bytes) there there_lies, length-encode_one, accounts, payload, sum)

-- reading by what was decoded, and by which entries that makes
unfoldable pub outcome : List ℕ → (List Instruction → List Entry) → Option (Read (List Instruction)) → Refusable ParsedInstructions
outcome bytes entries none = reading_refused
outcome bytes entries (some d) = Ok (record { entries = entries_of (entries d.value); consumed = length bytes - length d.rest })

pub reading_of : (bytes : List ℕ) (o : Option (Read (List Instruction))) → decode bytes ≡ o → reading bytes ≡ outcome bytes (entries_from 1) o
unfolding reading outcome
reading_of bytes none e = rw (e, reading)
reading_of bytes (some d) e = rw (e, reading)

pub reading_empty : (bytes : List ℕ) → length bytes < 1 → reading bytes ≡ Err InvalidInstructionData
unfolding decode byte outcome reading_refused
reading_empty [] h = reading_of [] none refl
reading_empty (b ∷ bytes) h = absurd (omega arith)

pub reading_too_many : (bytes : List ℕ) → 0 < length bytes → most_instructions < get_or bytes 0 0 → reading bytes ≡ Err InvalidInstructionData
unfolding outcome reading_refused
reading_too_many [] hb h = absurd (omega arith)
reading_too_many (b ∷ bytes) hb h = reading_of (b ∷ bytes) none (decode_too_many b bytes h)

-- the entries where some are read, and the instructions from a place on are to come
abbrev entries_on : List Entry → ℕ → List Instruction → List Entry
entries_on done at is = done ++ entries_from at is

-- reading, where so many instructions are left from a place, and the entries of the others are read
unfoldable pub reading_on : ℕ → List ℕ → List Entry → ℕ → Refusable ParsedInstructions
reading_on left bytes done at = outcome bytes (entries_on done at) (decode_each left (drop at bytes))

pub length_placed : (at : ℕ) (is : List Instruction) → length (entries_from at is) ≡ length is
unfolding entries_from
length_placed at [] = refl
length_placed at (i ∷ is) = ap suc (length_placed (at + length (encode_one i)) is)

reading_starts : (bytes : List ℕ) → 0 < length bytes → get_or bytes 0 0 ≤ most_instructions → reading_on (get_or bytes 0 0) bytes [] 1 ≡ reading bytes
unfolding reading_on outcome
reading_starts [] hb h = absurd (omega arith)
reading_starts (b ∷ bytes) hb h = go (decode_each b bytes) ∙ sym (reading_of (b ∷ bytes) (decode_each b bytes) (decode_count b bytes h))
  where
    go : (o : Option (Read (List Instruction))) → outcome (b ∷ bytes) (entries_on [] 1) o ≡ outcome (b ∷ bytes) (entries_from 1) o
    go none = refl
    go (some d) = refl

module _ (left : ℕ) (bytes : List ℕ) (done : List Entry) (at : ℕ) where
  reading_stops : (r : Refusal) → head_of at (decode_one (drop at bytes)) ≡ Err r → reading_on (suc left) bytes done at ≡ Err r
  unfolding reading_on decode_each head_of outcome reading_refused
  reading_stops r h = go (decode_one (drop at bytes)) refl h
    where
      go : (o : Option (Read Instruction)) → decode_one (drop at bytes) ≡ o → head_of at o ≡ Err r → reading_on (suc left) bytes done at ≡ Err r
      go none e s = let q : InvalidInstructionData ≡ r = cc in rw (e, reading_on, q)
      go (some d) e s = cc

  one_more : (d : Read Instruction) (o : Option (Read (List Instruction)))
      → outcome bytes (entries_on done at)
      (o >>= (λ (more : Read (List Instruction)). some (record { value = d.value ∷ more.value; rest = more.rest })))
      ≡ outcome bytes (entries_on (done ++ (entry_at at d.value ∷ [])) (at + length (encode_one d.value))) o
  unfolding outcome entries_from
  one_more d none = refl
  one_more d (some more) = rw append_assoc

  reading_goes_on : (head : Entry × ℕ) → head_of at (decode_one (drop at bytes)) ≡ Ok head
      → reading_on (suc left) bytes done at ≡ reading_on left bytes (done ++ (head.0 ∷ [])) head.1
  unfolding reading_on decode_each head_of
  reading_goes_on head h = go (decode_one (drop at bytes)) refl h
    where
      go : (o : Option (Read Instruction)) → decode_one (drop at bytes) ≡ o → head_of at o ≡ Ok head
          → reading_on (suc left) bytes done at ≡ reading_on left bytes (done ++ (head.0 ∷ [])) head.1
      go none e s = cc
      go (some d) e s =
          let size = length (encode_one d.value) in
          let rest : d.rest ≡ drop (at + size) bytes = one_rest (drop at bytes) d e ∙ drop-drop size at bytes in
          let is : (entry_at at d.value, at + size) ≡ head = cc in
          rw (e, rest, ← is) (one_more d (decode_each left (drop (at + size) bytes)))

reading_inside : (bytes : List ℕ) (at : ℕ) (head : Entry × ℕ) → at ≤ length bytes → head_of at (decode_one (drop at bytes)) ≡ Ok head
    → head.1 ≤ length bytes
unfolding head_of
reading_inside bytes at head inside h = go (decode_one (drop at bytes)) refl h
  where
    go : (o : Option (Read Instruction)) → decode_one (drop at bytes) ≡ o → head_of at o ≡ Ok head → head.1 ≤ length bytes
    go none e s = let z : ◌≡◌ {A = ℕ} 0 1 = cc in omega arith
    go (some d) e s =
        let is : (entry_at at d.value, at + length (encode_one d.value)) ≡ head = cc in
        rw (← is) (omega (arith, one_size (drop at bytes) d e, length-drop at bytes))

reading_ends : (bytes : List ℕ) (done : List Entry) (at : ℕ) → at ≤ length bytes
    → reading_on 0 bytes done at ≡ Ok (record { entries = entries_of done; consumed = at })
unfolding reading_on decode_each outcome entries_from
reading_ends bytes done at inside =
    let all : length bytes - (length bytes - at) ≡ at = omega arith in
    rw (append-nil, length-drop, all)

-- how far a list is read: some entries are, and reading on from `at` gives what reading gives
pub record ReadSoFar (bytes : List ℕ) (count : ℕ) (done : List Entry) (at : ℕ) : Type 0 where
  pub most : length done ≤ count
  pub few : count ≤ most_instructions
  pub inside : at ≤ length bytes
  pub same : reading_on (count - length done) bytes done at ≡ reading bytes

pub read_none : (bytes : List ℕ) → 0 < length bytes → get_or bytes 0 0 ≤ most_instructions → ReadSoFar bytes (get_or bytes 0 0) [] 1
read_none bytes some_byte few =
    record { most = omega arith; few = few; inside = some_byte; same = rw sub-zero (reading_starts bytes some_byte few) }

module _ {bytes : List ℕ} {count : ℕ} {done : List Entry} {at : ℕ} (far : ReadSoFar bytes count done at) where
  pub read_all : count ≤ length done → reading bytes ≡ Ok (record { entries = entries_of done; consumed = at })
  read_all last =
      let none_left : count - length done ≡ 0 = omega (arith, last) in
      sym (rw none_left at far.same) ∙ reading_ends bytes done at far.inside

  module _ (more : length done < count) where
    one_left : reading_on (suc (count - suc (length done))) bytes done at ≡ reading bytes
    one_left = let left : count - length done ≡ suc (count - suc (length done)) = omega arith in rw left at far.same

    pub read_short : (r : Refusal) → head_of at (decode_one (drop at bytes)) ≡ Err r → reading bytes ≡ Err r
    read_short r h = sym one_left ∙ reading_stops (count - suc (length done)) bytes done at r h

    pub read_one : (head : Entry × ℕ) → head_of at (decode_one (drop at bytes)) ≡ Ok head → ReadSoFar bytes count (done ++ (head.0 ∷ [])) head.1
    read_one head h =
        let longer : length (done ++ (head.0 ∷ [])) ≡ suc (length done) = simp length-append (omega arith) in
        record {
          most = omega (arith, longer);
          few = far.few;
          inside = reading_inside bytes at head far.inside h;
          same = rw longer (sym (reading_goes_on (count - suc (length done)) bytes done at head h) ∙ one_left);
        }
