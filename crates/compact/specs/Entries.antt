-- Entries over a source: the ranges that name an instruction's accounts and data, and the list that entries mean.
-- Assumes nothing.
use Rattle.std.specs.Prelude.{ℕ, ◌+◌, Bool, List, map, leb, length}
use Rattle.arrayvec.specs.ArrayVec.{ArrayVec}
use Rattle.part.specs.Part.{part_at}
use Rattle.compact.specs.declared.Range.{Range}
use Rattle.compact.specs.declared.Entry.{Entry}
use Rattle.compact.specs.Compact.{Instruction}

-- the bytes of a source that a range names, nothing where they are not all there
abbrev pub range_bytes : List ℕ → Range → List ℕ
range_bytes source r = part_at source r.start r.len

-- whether a range lies within a source: its start plus its length does not pass the end
unfoldable pub within : List ℕ → Range → Bool
within source r = leb (r.start + r.len) (length source)

-- the instruction that an entry means over a source
unfoldable pub meant : List ℕ → Entry → Instruction
meant source e = record { program = e.program; accounts = range_bytes source e.accounts; payload = range_bytes source e.payload }

-- the entries that a list holds
abbrev pub entries_in : ArrayVec Entry → List Entry
entries_in l = l.items

-- the instructions that some entries mean over a source
unfoldable pub list_of : List ℕ → List Entry → List Instruction
list_of source es = map (meant source) es
