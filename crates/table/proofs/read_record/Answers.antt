-- `table::read_record` meets its contract: each test is one of the definition's, at its place in the table.
-- Assumes nothing.
use mathlib.Core.Path.{sym}
use native.Mathlib.Omega.{arith}
use Rattle.table.proofs.Cutting.{no_record_short, no_record_past, record_there}
use Rattle.table.proofs.read_record.Goals as goal

pub returns-then-table-at : goal.returns-then-table-at
returns-then-table-at c = sym (no_record_short _ _ (omega arith))

pub returns-then-left-lt-RECORD_HEADER_SIZE : goal.returns-then-left-lt-RECORD_HEADER_SIZE
returns-then-left-lt-RECORD_HEADER_SIZE c = sym (no_record_short _ _ (omega arith))

pub returns-then-left-len : goal.returns-then-left-len
returns-then-left-len c = sym (no_record_past _ _ (omega arith) (omega arith))

pub returns : goal.returns
returns c = rw c.read_u32-len.ensures (sym (record_there _ _ (omega arith) (omega arith)))
