-- `region::read_header` meets its contract: each test is one of the definition's, at its place in the region.
-- Assumes nothing.
use mathlib.Core.Path.{sym}
use native.Mathlib.Omega.{arith}
use Rattle.region.proofs.Cutting.{no_header_short, no_header_unknown, no_header_past, header_there}
use Rattle.region.proofs.read_header.Goals as goal

pub returns-then-region-at : goal.returns-then-region-at
returns-then-region-at c = sym (no_header_short _ _ (omega arith))

pub returns-then-left-lt-ACTION_HEADER_SIZE : goal.returns-then-left-lt-ACTION_HEADER_SIZE
returns-then-left-lt-ACTION_HEADER_SIZE c = sym (no_header_short _ _ (omega arith))

pub returns-then-expected_data_size-eq0 : goal.returns-then-expected_data_size-eq0
returns-then-expected_data_size-eq0 c = sym (no_header_unknown _ _ (omega arith))

pub returns-then-left-len : goal.returns-then-left-len
returns-then-left-len c = sym (no_header_past _ _ (omega arith) (omega arith))

pub returns : goal.returns
returns c =
    rw (c.read_u64.ensures, c.read_u16-len.ensures)
    (sym (header_there _ _ (omega arith) (omega arith) (omega arith)))
