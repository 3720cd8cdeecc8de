-- What a view names of a table, and the records that some views name.
-- Assumes nothing.
use Rattle.std.specs.Prelude.{ℕ, List, map, drop}
use Rattle.part.specs.Part.{part_at}
use Rattle.account.specs.declared.RecordView.{RecordView}
use Rattle.account.specs.declared.Table.{Table}
use Rattle.account.specs.Record.{Record, record_header}

-- the record that a view names, each part by itself: nothing where it passes the end
unfoldable pub record_at : List ℕ → RecordView → Record
record_at s v = record { key = part_at (drop v.at s) 0 32; owner = part_at (drop v.at s) 32 32; payload = part_at (drop v.at s) record_header v.len }

-- the records that some views name
unfoldable pub records_in : List ℕ → List RecordView → List Record
unfolding record_at
records_in s views = map (record_at s) views

-- the records of a table, whose bytes and views are lent together
abbrev pub table_records : Table → List Record
table_records t = records_in t.bytes.now t.records.now
