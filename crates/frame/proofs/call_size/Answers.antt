-- `frame::call_size` meets its contract: each test is one of the definition's.
-- Assumes nothing.
use mathlib.Core.Path.{sym}
use native.Mathlib.Omega.{arith}
use Rattle.frame.proofs.Frames.{size_short, size_long, size_there}
use Rattle.frame.proofs.call_size.Goals as goal

pub returns-then-bytes-lt-CALL_HEAD_SIZE : goal.returns-then-bytes-lt-CALL_HEAD_SIZE
returns-then-bytes-lt-CALL_HEAD_SIZE c = sym (size_short _ c.if-bytes-lt-CALL_HEAD_SIZE.true)

pub returns-then-len-gt-MAX_PARTS : goal.returns-then-len-gt-MAX_PARTS
returns-then-len-gt-MAX_PARTS c = sym (size_long _ (omega arith) (omega arith))

pub returns : goal.returns
returns c = rw c.parts_length-len.ensures (sym (size_there _ (omega arith) (omega arith)))
