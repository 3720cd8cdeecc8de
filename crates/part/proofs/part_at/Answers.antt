-- `part::part_at` meets its contract: past the two tests the part is there, and else it passes the end.
-- Assumes nothing.
use mathlib.Core.Path.{sym}
use native.Mathlib.Nat.{add-sub_cancel_left}
use native.Mathlib.Omega.{arith}
use Rattle.part.proofs.Laws.{part_there, part_past}
use Rattle.part.proofs.part_at.Goals as goal

pub returns-then-bytes-len : goal.returns-then-bytes-len
returns-then-bytes-len c = sym (part_past _ _ _ (omega arith))

pub returns-then-bytes-len-2 : goal.returns-then-bytes-len-2
returns-then-bytes-len-2 c = sym (part_past _ _ _ (omega arith))

pub returns : goal.returns
returns c = rw add-sub_cancel_left (sym (part_there _ _ _ (omega arith)))
