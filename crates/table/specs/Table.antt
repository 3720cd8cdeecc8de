-- The account table: two bytes of count, then as many records, each with its key, its owning program and its data; cut from bytes and
-- glued to bytes.
-- Assumes nothing.
use Rattle.std.specs.Prelude.{ℕ, zero, suc, ◌+◌, ◌^◌, ◌<◌, ◌≡◌, cond, ◌&&◌, List, [], ◌∷◌, ◌++◌, leb, length, take, drop}
use Rattle.answer.specs.declared.Refusal.TheVariants.{BadTable}
use Rattle.answer.specs.Refusable.{Refusable, Ok, Err, change}
use Rattle.number.specs.Number.{number, bytes_of}
use Rattle.account.specs.Record.{Record, record_header}

-- the bytes of the count
abbrev pub table_header : ℕ
table_header = 2

-- the most records of a table
abbrev pub most_records : ℕ
most_records = 64

-- the first record of a row of bytes, and the bytes after it
pub record FirstRecord : Type 0 where
  pub first : Record
  pub rest : List ℕ

-- the data length that a record states
unfoldable pub record_data_length : List ℕ → ℕ
record_data_length s = number (take 4 (drop 64 s))

-- refused where the record's header or its data passes the end
unfoldable pub first_record : List ℕ → Refusable FirstRecord
unfolding record_data_length
first_record s =
    cond (leb record_header (length s) && leb (record_header + record_data_length s) (length s))
    (Ok (record {
      first = record { key = take 32 s; owner = take 32 (drop 32 s); payload = take (record_data_length s) (drop record_header s) };
      rest = drop (record_header + record_data_length s) s;
    }))
    (Err BadTable)

-- as many records as are counted, the last of them at the end
unfoldable pub cut_records : ℕ → List ℕ → Refusable (List Record)
unfolding first_record
cut_records zero [] = Ok []
cut_records zero (b ∷ bs) = Err BadTable
cut_records (suc count) s =
    elim (first_record s) [ Ok f ↦ change (λ (l : List Record). f.first ∷ l) (cut_records count f.rest) | Err r ↦ Err r ]

-- the records of a table: a count of 0 to 64, and as many records
unfoldable pub cut_table : List ℕ → Refusable (List Record)
unfolding cut_records
cut_table s =
    cond (leb table_header (length s) && leb (number (take table_header s)) most_records)
    (cut_records (number (take table_header s)) (drop table_header s))
    (Err BadTable)

-- the records of a table that was cut, none where it is malformed
abbrev pub records_of : Refusable (List Record) → List Record
records_of (Ok l) = l
records_of (Err r) = []

-- the bytes of a record
unfoldable pub glue_record : Record → List ℕ
glue_record r = r.key ++ r.owner ++ bytes_of 4 (length r.payload) ++ r.payload

-- the bytes of a row of records
unfoldable pub glue_records : List Record → List ℕ
unfolding glue_record
glue_records [] = []
glue_records (r ∷ l) = glue_record r ++ glue_records l

-- the bytes of a table
unfoldable pub glue_table : List Record → List ℕ
unfolding glue_records
glue_table l = bytes_of table_header (length l) ++ glue_records l

-- what a table can hold: a key and an owning program of 32 bytes, data whose length fits 4 bytes
abbrev pub Storable : Record → Type 0
Storable r = (length r.key ≡ 32) × (length r.owner ≡ 32) × (length r.payload < 256 ^ 4)
