-- Where the records of a table lie: the values that the code answers with, each from the records that were cut.
-- Assumes nothing.
use Rattle.std.specs.Prelude.{ℕ, ◌+◌, List, [], ◌∷◌, length, drop}
use Rattle.arrayvec.specs.ArrayVec.{ArrayVec}
use Rattle.answer.specs.Refusable.{Refusable, Ok, Err, change}
use Rattle.account.specs.declared.RecordView.{RecordView}
use Rattle.account.specs.Record.{Record, record_header}
use Rattle.table.specs.Table.{FirstRecord, first_record, table_header}

-- the view of a record that starts at a place
unfoldable pub record_view_at : ℕ → Record → RecordView
record_view_at place r = record { at = place; len = length r.payload }

-- the views of a row of records, the first at a place
unfoldable pub record_views_from : ℕ → List Record → List RecordView
unfolding record_view_at
record_views_from place [] = []
record_views_from place (r ∷ l) = record_view_at place r ∷ record_views_from (place + record_header + length r.payload) l

-- what reading the record at a place answers
unfoldable pub read_at : List ℕ → ℕ → Refusable RecordView
unfolding record_view_at
read_at s at = change (λ (f : FirstRecord). record_view_at at f.first) (first_record (drop at s))

-- a table's places: the views of the records that were cut
unfoldable pub places_of : Refusable (List Record) → Refusable (ArrayVec RecordView)
unfolding record_views_from
places_of cutting = change (λ (l : List Record). record { items = record_views_from table_header l }) cutting

-- what some places hold, nothing where they are refused
abbrev pub items_of : {A : Type 0} → Refusable (ArrayVec A) → List A
items_of (Ok views) = views.items
items_of (Err r) = []
