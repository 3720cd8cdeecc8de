-- The laws of the format: how the bytes of an instruction lie, that decoding undoes encoding and encoding decoding, and what more bytes
-- and fewer bytes do to what is decoded. None opens the limit of instructions.
-- Assumes nothing.
use Prim.Native.Nat.{ℕ, zero, suc, ◌+◌, ◌^◌, ◌<◌, ◌≤◌}
use mathlib.Core.Path.{◌≡◌, refl, sym, ap, ◌∙◌, subst}
use mathlib.Core.Bool.{Bool, true, false}
use mathlib.Core.List.{List, [], ◌∷◌, ◌++◌, append_assoc}
use mathlib.Core.Option.{Option, none, some, none-ne-some, some-injective}
use native.Mathlib.Omega.{arith}
use borrow.Author.Tests.{le-leb, lt-leb, leb-true, leb-false}
use lib.Dec.{leb}
use lib.ListN.{length, take, drop, length-append, take-append-drop, length-drop}
use lib.Seq.{length-take-le, take_at, drop_at}
use Rattle.answer.specs.Each.{Each}
use Rattle.number.specs.Number.{number, bytes_of, Bytes}
use Rattle.number.proofs.Laws.{length-bytes_of, number-bytes_of, bytes_of-number, number_below}
use Rattle.compact.specs.Compact.{Instruction, WritableOne, most_instructions, most_accounts, most_payload, Read, ◌>>=◌, byte, front, encode_one, encode_each, decode_one, decode_each, decode}

-- what a step of reading found, where the steps together found something
found : {A B : Type 0} (o : Option A) (f : A → Option B) {b : B} → (o >>= f) ≡ some b → (a : A) × (o ≡ some a) × (f a ≡ some b)
found none f {b} h = absurd (none-ne-some b h)
found (some a) f h = (a, refl, h)

front_there : (n : ℕ) (bytes : List ℕ) → n ≤ length bytes → front n bytes ≡ some (record { value = take n bytes; rest = drop n bytes })
unfolding front
front_there n bytes h = rw (le-leb n (length bytes) h, front)

front_not_there : (n : ℕ) (bytes : List ℕ) → length bytes < n → front n bytes ≡ none
unfolding front
front_not_there n bytes h = rw (lt-leb n (length bytes) h, front)

front-append : (n : ℕ) (xs ys : List ℕ) → length xs ≡ n → front n (xs ++ ys) ≡ some (record { value = xs; rest = ys })
front-append n xs ys e =
    let fits : n ≤ length (xs ++ ys) = simp length-append (omega arith) in
    front_there n (xs ++ ys) fits ∙ rw (take_at xs ys n e, drop_at xs ys n e)

front_split : (n : ℕ) (bytes : List ℕ) (r : Read (List ℕ)) → front n bytes ≡ some r → (length r.value ≡ n) × (bytes ≡ r.value ++ r.rest)
front_split n bytes r h = go (leb n (length bytes)) refl
  where
    go : (t : Bool) → leb n (length bytes) ≡ t → (length r.value ≡ n) × (bytes ≡ r.value ++ r.rest)
    go true e =
        let fits : n ≤ length bytes = leb-true n (length bytes) e in
        subst (λ (q : Read (List ℕ)). (length q.value ≡ n) × (bytes ≡ q.value ++ q.rest))
        (some-injective _ _ (sym (front_there n bytes fits) ∙ h))
        (length-take-le n bytes fits, sym (take-append-drop n bytes))
    go false e = absurd (none-ne-some r (sym (front_not_there n bytes (leb-false n (length bytes) e)) ∙ h))

-- how the bytes of an instruction that was read lie: between its accounts and its data, two bytes say how long the data is
pub record Lies (bytes : List ℕ) (r : Read Instruction) : Type 0 where
  pub size : List ℕ
  pub two : length size ≡ 2
  pub says : number size ≡ length r.value.payload
  pub split : bytes ≡ r.value.program ∷ length r.value.accounts ∷ r.value.accounts ++ (size ++ (r.value.payload ++ r.rest))

pub lies_is_read : (bytes : List ℕ) (r : Read Instruction) → Lies bytes r → decode_one bytes ≡ some r
unfolding decode_one byte
lies_is_read bytes r l =
    rw (
      l.split,
      front-append (length r.value.accounts) r.value.accounts (l.size ++ (r.value.payload ++ r.rest)) refl,
      front-append 2 l.size (r.value.payload ++ r.rest) l.two,
      front-append (number l.size) r.value.payload r.rest (sym l.says),
    )

lies_at : (p : ℕ) (accounts size payload rest bytes : List ℕ) (r : Read Instruction) → length size ≡ 2 → number size ≡ length payload
    → bytes ≡ p ∷ length accounts ∷ accounts ++ (size ++ (payload ++ rest))
    → some (record { value = record { program = p; accounts = accounts; payload = payload }; rest = rest }) ≡ some r → Lies bytes r
lies_at p accounts size payload rest bytes r two says split e =
    subst (Lies bytes) (some-injective _ _ e) (record { size = size; two = two; says = says; split = split })

pub read_lies : (bytes : List ℕ) (r : Read Instruction) → decode_one bytes ≡ some r → Lies bytes r
unfolding decode_one byte
read_lies [] r h = absurd (none-ne-some r h)
read_lies (p ∷ []) r h = absurd (none-ne-some r h)
read_lies (p ∷ n ∷ bytes) r h =
    let (accounts, ea, ha) = found (front n bytes) _ h in
    let (size, es, hs) = found (front 2 accounts.rest) _ ha in
    let (payload, ep, hp) = found (front (number size.value) size.rest) _ hs in
    let sa = front_split n bytes accounts ea in
    let ss = front_split 2 accounts.rest size es in
    let sp = front_split (number size.value) size.rest payload ep in
    lies_at p accounts.value size.value payload.value payload.rest (p ∷ n ∷ bytes) r ss.0 (sym sp.0)
    (rw (sa.0, ← sp.1, ← ss.1, ← sa.1))
    hp

pub length-encode_one : (i : Instruction) → length (encode_one i) ≡ 4 + length i.accounts + length i.payload
unfolding encode_one
length-encode_one i = simp (length-append, length-bytes_of) (omega arith)

-- what was read and what is after it is what was there
pub one_size : (bytes : List ℕ) (r : Read Instruction) → decode_one bytes ≡ some r → length (encode_one r.value) + length r.rest ≡ length bytes
one_size bytes r h =
    let l = read_lies bytes r h in
    let long = simp length-append at (ap length l.split) in
    rw length-encode_one (omega (arith, l.two))

pub one_rest : (bytes : List ℕ) (r : Read Instruction) → decode_one bytes ≡ some r → r.rest ≡ drop (length (encode_one r.value)) bytes
one_rest bytes r h =
    let l = read_lies bytes r h in
    let i = r.value in
    let whole : List ℕ = i.program ∷ length i.accounts ∷ i.accounts ++ (l.size ++ i.payload) in
    let split : bytes ≡ whole ++ r.rest = rw (append_assoc, append_assoc) l.split in
    let long : length whole ≡ length (encode_one i) = rw length-encode_one (simp length-append (omega (arith, l.two))) in
    rw split (sym (drop_at whole r.rest (length (encode_one i)) long))

pub one_encoded : (i : Instruction) (rest : List ℕ) → length i.payload ≤ most_payload
    → decode_one (encode_one i ++ rest) ≡ some (record { value = i; rest = rest })
unfolding encode_one most_payload
one_encoded i rest h =
    lies_is_read (encode_one i ++ rest) (record { value = i; rest = rest })
    (record {
      size = bytes_of 2 (length i.payload);
      two = length-bytes_of 2 (length i.payload);
      says = number-bytes_of 2 (length i.payload) (omega arith);
      split = simp append_assoc;
    })

bytes_left : (s t : List ℕ) → Bytes (s ++ t) → Bytes s
bytes_left [] t h i = omega arith
bytes_left (b ∷ s) t h zero = h 0
bytes_left (b ∷ s) t h (suc i) = bytes_left s t (λ j. h (suc j)) i

bytes_right : (s t : List ℕ) → Bytes (s ++ t) → Bytes t
bytes_right [] t h = h
bytes_right (b ∷ s) t h = bytes_right s t (λ j. h (suc j))

-- an instruction that was read from bytes keeps the limits, and the bytes around it are bytes
pub record OfBytes (r : Read Instruction) (size : List ℕ) : Type 0 where
  pub encodable : WritableOne r.value
  pub between : Bytes size
  pub after : Bytes r.rest

pub of_bytes : (bytes : List ℕ) (r : Read Instruction) (l : Lies bytes r) → Bytes bytes → OfBytes r l.size
unfolding most_accounts most_payload
of_bytes bytes r l hb =
    let i = r.value in
    let all : Bytes (i.program ∷ length i.accounts ∷ i.accounts ++ (l.size ++ (i.payload ++ r.rest))) = rw l.split at hb in
    let low : i.program < 256 = all 0 in
    let few : length i.accounts < 256 = all 1 in
    let after : Bytes (i.accounts ++ (l.size ++ (i.payload ++ r.rest))) = λ j. all (suc (suc j)) in
    let sized = bytes_right i.accounts (l.size ++ (i.payload ++ r.rest)) after in
    let size = bytes_left l.size (i.payload ++ r.rest) sized in
    let last = bytes_right l.size (i.payload ++ r.rest) sized in
    let short : number l.size < 256 ^ 2 = rw l.two at (number_below l.size size) in
    record {
      encodable =
          record {
            program = low;
            indexes = bytes_left i.accounts (l.size ++ (i.payload ++ r.rest)) after;
            bytes = bytes_left i.payload r.rest last;
            few = omega arith;
            short = omega (arith, l.says);
          };
      between = size;
      after = bytes_right i.payload r.rest last;
    }

regroup : (p n : ℕ) (a s d rest : List ℕ) → p ∷ n ∷ a ++ s ++ d ++ rest ≡ p ∷ n ∷ a ++ (s ++ (d ++ rest))
regroup p n a s d rest = simp append_assoc

pub one_again : (bytes : List ℕ) (r : Read Instruction) → Bytes bytes → decode_one bytes ≡ some r → encode_one r.value ++ r.rest ≡ bytes
unfolding encode_one
one_again bytes r hb h =
    let l = read_lies bytes r h in
    let i = r.value in
    let back = bytes_of-number l.size (of_bytes bytes r l hb).between in
    let same : bytes_of 2 (length i.payload) ≡ l.size = rw (← l.says, ← l.two) back in
    rw same (regroup i.program (length i.accounts) i.accounts l.size i.payload r.rest ∙ sym l.split)

-- what was read, with more bytes after it
abbrev pub longer : {A : Type 0} → Read A → List ℕ → Read A
longer r more = record { value = r.value; rest = r.rest ++ more }

-- more bytes do not change what a reading found
abbrev pub Extends : {A : Type 0} → (List ℕ → Option (Read A)) → Type 0
Extends {A} f = (bytes more : List ℕ) (r : Read A) → f bytes ≡ some r → f (bytes ++ more) ≡ some (longer r more)

-- so with any byte of it missing nothing is found
pub needs_all : {A : Type 0} (f : List ℕ → Option (Read A)) → Extends f → (bytes : List ℕ) (r : Read A) (n : ℕ) → f bytes ≡ some r
    → n + length r.rest < length bytes → f (take n bytes) ≡ none
needs_all f ext bytes r n h short = go (f (take n bytes)) refl
  where
    go : (o : Option _) → f (take n bytes) ≡ o → f (take n bytes) ≡ none
    go none e = e
    go (some q) e =
        let again : f bytes ≡ some (longer q (drop n bytes)) = rw (take-append-drop n bytes) at (ext (take n bytes) (drop n bytes) q e) in
        let same : r ≡ longer q (drop n bytes) = some-injective _ _ (sym h ∙ again) in
        let long = simp (length-append, length-drop) at (ap (λ (p : Read _). length p.rest) same) in
        absurd (omega arith)

pub one_extends : Extends decode_one
one_extends bytes more r h =
    let l = read_lies bytes r h in
    lies_is_read (bytes ++ more) (longer r more)
    (record {
      size = l.size;
      two = l.two;
      says = l.says;
      split = ap (λ (s : List ℕ). s ++ more) l.split ∙ simp append_assoc;
    })

pub each_extends : (n : ℕ) → Extends (decode_each n)
unfolding decode_each
each_extends zero bytes more r h = ap (λ (q : Read (List Instruction)). some (longer q more)) (some-injective _ _ h)
each_extends (suc n) bytes more r h =
    let (first, ef, hf) = found (decode_one bytes) _ h in
    let (others, eo, ho) = found (decode_each n first.rest) _ hf in
    rw (one_extends bytes more first ef, each_extends n first.rest more others eo)
    (ap (λ (q : Read (List Instruction)). some (longer q more)) (some-injective _ _ ho))

pub each_count : (n : ℕ) (bytes : List ℕ) (r : Read (List Instruction)) → decode_each n bytes ≡ some r → length r.value ≡ n
unfolding decode_each
each_count zero bytes r h = ap (λ (q : Read (List Instruction)). length q.value) (sym (some-injective _ _ h))
each_count (suc n) bytes r h =
    let (first, ef, hf) = found (decode_one bytes) _ h in
    let (others, eo, ho) = found (decode_each n first.rest) _ hf in
    ap (λ (q : Read (List Instruction)). length q.value) (sym (some-injective _ _ ho)) ∙ ap suc (each_count n first.rest others eo)

pub each_encoded : (is : List Instruction) (rest : List ℕ) → Each (λ (i : Instruction). length i.payload ≤ most_payload) is
    → decode_each (length is) (encode_each is ++ rest) ≡ some (record { value = is; rest = rest })
unfolding decode_each encode_each
each_encoded [] rest h = refl
each_encoded (i ∷ is) rest h =
    rw (append_assoc (encode_one i) (encode_each is) rest, one_encoded i (encode_each is ++ rest) h.0, each_encoded is rest h.1)

pub each_again : (n : ℕ) (bytes : List ℕ) (r : Read (List Instruction)) → Bytes bytes → decode_each n bytes ≡ some r
    → (encode_each r.value ++ r.rest ≡ bytes) × Each WritableOne r.value
unfolding decode_each encode_each
each_again zero bytes r hb h =
    subst (λ (q : Read (List Instruction)). (encode_each q.value ++ q.rest ≡ bytes) × Each WritableOne q.value)
    (some-injective _ _ h)
    (refl, tt)
each_again (suc n) bytes r hb h =
    let (first, ef, hf) = found (decode_one bytes) _ h in
    let (others, eo, ho) = found (decode_each n first.rest) _ hf in
    let this = of_bytes bytes first (read_lies bytes first ef) hb in
    let those = each_again n first.rest others this.after eo in
    subst (λ (q : Read (List Instruction)). (encode_each q.value ++ q.rest ≡ bytes) × Each WritableOne q.value)
    (some-injective _ _ ho)
    (rw (append_assoc (encode_one first.value), those.0) (one_again bytes first hb ef), (this.encodable, those.1))

-- a list within the limit is as many instructions as its first byte says
pub decode_count : (count : ℕ) (bytes : List ℕ) → count ≤ most_instructions → decode (count ∷ bytes) ≡ decode_each count bytes
unfolding decode byte
decode_count count bytes h = rw (le-leb count most_instructions h, ◌>>=◌)

pub decode_too_many : (count : ℕ) (bytes : List ℕ) → most_instructions < count → decode (count ∷ bytes) ≡ none
unfolding decode byte
decode_too_many count bytes h = rw (lt-leb count most_instructions h, ◌>>=◌)
