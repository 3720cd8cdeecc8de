-- `compact::head_at` meets its contract: past the three tests the instruction lies whole at the place, and at each of them a part is past
-- the end.
-- Assumes nothing.
use Prim.Native.Nat.{◌+◌}
use mathlib.Core.Path.{sym}
use native.Mathlib.Omega.{arith}
use Rattle.compact.proofs.Reading.{head_accounts_short, head_payload_short, head_there}
use Rattle.compact.proofs.head_at.Goals as goal

pub returns-then-left-lt4 : goal.returns-then-left-lt4
returns-then-left-lt4 c = sym (head_accounts_short _ _ (omega arith))

pub overflow_cast-count : goal.overflow_cast-count
overflow_cast-count c = omega (arith, c.type_inv.bytes (c.args.at + 1))

pub returns-then-left-count : goal.returns-then-left-count
returns-then-left-count c = sym (head_accounts_short _ _ (omega arith))

pub returns-then-left-count-2 : goal.returns-then-left-count-2
returns-then-left-count-2 c = sym (head_payload_short _ _ c.read_u16-size.result c.read_u16-size.ensures (omega arith))

pub returns : goal.returns
returns c = sym (head_there _ _ c.read_u16-size.result c.read_u16-size.ensures (omega arith))
