-- `frame::read_call` meets its contract: each test is one of the definition's.
-- Assumes nothing.
use mathlib.Core.Path.{sym}
use native.Mathlib.Omega.{arith}
use Rattle.frame.proofs.Frames.{front_short, front_long, front_past, front_there}
use Rattle.frame.proofs.read_call.Goals as goal

pub returns-then-bytes-lt-CALL_HEAD_SIZE : goal.returns-then-bytes-lt-CALL_HEAD_SIZE
returns-then-bytes-lt-CALL_HEAD_SIZE c = sym (front_short _ c.if-bytes-lt-CALL_HEAD_SIZE.true)

pub returns-then-len-gt-MAX_PARTS : goal.returns-then-len-gt-MAX_PARTS
returns-then-len-gt-MAX_PARTS c = sym (front_long _ (omega arith) (omega arith))

pub returns-then-bytes-len : goal.returns-then-bytes-len
returns-then-bytes-len c = sym (front_past _ (omega arith) (omega arith) (omega arith))

pub returns : goal.returns
returns c = rw c.whole_call.ensures (sym (front_there _ (omega arith) (omega arith) (omega arith)))
