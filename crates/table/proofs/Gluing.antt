-- Cutting what was glued gives the records, and gluing what was cut gives the bytes.
-- Assumes nothing.
use mathlib.Core.Path.{◌≡◌, refl, sym, ap, ap₂, ◌∙◌}
use mathlib.Core.List.{List, [], ◌∷◌, ◌++◌, append_assoc}
use Prim.Native.Nat.{ℕ, zero, suc, ◌+◌, ◌≤◌}
use native.Mathlib.Omega.{arith}
use lib.ListN.{length, take, drop, length-append, length-drop, take-append-drop}
use lib.Seq.{take_at, drop_at, drop-drop, take-add, length-take-le}
use Rattle.answer.specs.Each.{Each}
use Rattle.answer.specs.Refusable.{Ok}
use Rattle.number.specs.Number.{Bytes, number, bytes_of, number_at}
use Rattle.number.proofs.Laws.{length-bytes_of, number-bytes_of, bytes_of-number, number_there, bytes_take, bytes_drop}
use Rattle.account.specs.Record.{Record}
use Rattle.table.specs.Table.{FirstRecord, Storable, record_data_length, first_record, cut_records, cut_table, glue_record, glue_records, glue_table}
use Rattle.table.proofs.Cutting.{IsFirst, first_given, cut-first, table_counted}
use Rattle.table.proofs.Given.{none_given, one_given, given_length, table_given}

-- ---- cutting what was glued

-- a record's parts one after the other, and what comes after them
module _ (key owner len payload after : List ℕ) (hk : length key ≡ 32) (ho : length owner ≡ 32) (hl : length len ≡ 4) (hn : number len ≡ length payload) where
  abbrev row : List ℕ
  row = key ++ (owner ++ (len ++ (payload ++ after)))

  from_owner : drop 32 row ≡ owner ++ (len ++ (payload ++ after))
  from_owner = drop_at key (owner ++ (len ++ (payload ++ after))) 32 hk

  from_length : drop 64 row ≡ len ++ (payload ++ after)
  from_length = sym (drop-drop 32 32 row) ∙ ap (λ (l : List ℕ). drop 32 l) from_owner ∙ drop_at owner (len ++ (payload ++ after)) 32 ho

  from_payload : drop 68 row ≡ payload ++ after
  from_payload = sym (drop-drop 4 64 row) ∙ ap (λ (l : List ℕ). drop 4 l) from_length ∙ drop_at len (payload ++ after) 4 hl

  from_after : drop (68 + length payload) row ≡ after
  from_after =
      sym (drop-drop (length payload) 68 row) ∙ ap (λ (l : List ℕ). drop (length payload) l) from_payload
      ∙ drop_at payload after (length payload) refl

  stated : record_data_length row ≡ length payload
  unfolding record_data_length
  stated = rw (from_length, take_at len (payload ++ after) 4 hl) hn

  row_length : length row ≡ 68 + length payload + length after
  row_length = simp length-append (omega arith)

  row_first : first_record row ≡ Ok (record { first = record { key = key; owner = owner; payload = payload }; rest = after })
  row_first =
      let whole : 68 ≤ length row = rw row_length (omega arith) in
      let there : 68 + record_data_length row ≤ length row = rw (stated, row_length) (omega arith) in
      first_given row whole there
      ∙ rw (stated, from_after, from_payload, from_owner, take_at key (owner ++ (len ++ (payload ++ after))) 32 hk, take_at owner (len ++ (payload ++ after)) 32 ho, take_at payload after (length payload) refl)

first_glued : (r : Record) (after : List ℕ) → Storable r → first_record (glue_record r ++ after) ≡ Ok (record { first = r; rest = after })
unfolding glue_record
first_glued r after (hk, ho, hp) =
    let len = bytes_of 4 (length r.payload) in
    rw (append_assoc (r.key ++ r.owner ++ len) r.payload after, append_assoc (r.key ++ r.owner) len (r.payload ++ after), append_assoc r.key r.owner (len ++ (r.payload ++ after)))
    (row_first r.key r.owner len r.payload after hk ho (length-bytes_of 4 (length r.payload)) (number-bytes_of 4 (length r.payload) hp))

records_glued : (l : List Record) → Each Storable l → cut_records (length l) (glue_records l) ≡ Ok l
unfolding glue_records cut_records
records_glued [] h = refl
records_glued (r ∷ l) (one, others) =
    cut-first (length l) (glue_record r ++ glue_records l) (first_glued r (glue_records l) one) ∙ rw (records_glued l others)

pub table_glued : (l : List Record) → length l ≤ 64 → Each Storable l → cut_table (glue_table l) ≡ Ok l
unfolding glue_table
table_glued l few sound =
    let count = bytes_of 2 (length l) in
    let s = count ++ glue_records l in
    let two : length count ≡ 2 = length-bytes_of 2 (length l) in
    let long : 2 ≤ length s = simp length-append (omega arith) in
    let counted : length l ≡ number_at 2 s 0 =
    sym (number_there 2 s 0 (omega arith) ∙ rw (take_at count (glue_records l) 2 two) (number-bytes_of 2 (length l) (omega arith))) in
    table_counted s long (length l) counted few ∙ rw (drop_at count (glue_records l) 2 two) (records_glued l sound)

-- ---- gluing what was cut

joined : {a b c d : List ℕ} → a ≡ b → c ≡ d → a ++ c ≡ b ++ d
joined p q = ap₂ (λ (x y : List ℕ). x ++ y) p q

-- a record's bytes are those that it was cut from
record_bytes : (s : List ℕ) (f : FirstRecord) → Bytes s → IsFirst s f → glue_record f.first ≡ take (68 + length f.first.payload) s
unfolding glue_record record_data_length
record_bytes s f bytes facts =
    let n = length f.first.payload in
    let inside = facts.within in
    let len = take 4 (drop 64 s) in
    let four : length len ≡ 4 = length-take-le 4 (drop 64 s) (simp length-drop (omega arith)) in
    let stated : bytes_of 4 n ≡ len =
    rw (four, ← facts.length_is) at (bytes_of-number len (bytes_take 4 (drop 64 s) (bytes_drop 64 s bytes))) in
    let keys = joined facts.key_is facts.owner_is ∙ sym (take-add 32 32 s) in
    let header = joined keys stated ∙ sym (take-add 64 4 s) in
    joined header facts.payload_is ∙ sym (take-add 68 n s)

records_bytes : (n : ℕ) (s : List ℕ) (l : List Record) → Bytes s → cut_records n s ≡ Ok l → glue_records l ≡ s
unfolding glue_records
records_bytes zero s l bytes e = let (none, no-records) = none_given s l e in rw (none, no-records)
records_bytes (suc n) s l bytes e =
    let g = one_given n s l e in
    let size = 68 + length g.one.first.payload in
    let after = g.is_first.rest_is in
    let others : glue_records g.others ≡ drop size s =
    records_bytes n g.one.rest g.others (rw after (bytes_drop size s bytes)) g.rest_given ∙ after in
    rw (g.all, record_bytes s g.one bytes g.is_first, others) (take-append-drop size s)

pub table_bytes : (s : List ℕ) (l : List Record) → Bytes s → cut_table s ≡ Ok l → glue_table l ≡ s
unfolding glue_table
table_bytes s l bytes e =
    let g = table_given s l e in
    let two : length (take 2 s) ≡ 2 = length-take-le 2 s g.long in
    let counted = given_length (number (take 2 s)) (drop 2 s) l g.records_given in
    let count : bytes_of 2 (length l) ≡ take 2 s = rw counted (rw two at (bytes_of-number (take 2 s) (bytes_take 2 s bytes))) in
    rw (count, records_bytes _ (drop 2 s) l (bytes_drop 2 s bytes) g.records_given) (take-append-drop 2 s)
