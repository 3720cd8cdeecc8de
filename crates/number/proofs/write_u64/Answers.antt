-- `number::write_u64` meets its contract: where the bytes are all there they are written over, and else nothing is.
-- Assumes nothing.
use mathlib.Core.Path.{sym, ◌∙◌}
use native.Mathlib.Omega.{arith}
use borrow.Author.Tests.{le-leb, lt-leb}
use Prim.Native.Nat.{◌+◌, ◌<◌, ◌≤◌}
use lib.ListN.{length}
use Rattle.std.proofs.lemmas.Grind.{common_steps}
use Rattle.number.proofs.Laws.{write, not_written}
use Rattle.number.proofs.write_u64.Goals as goal

pub returns-then-is_none : goal.returns-then-is_none
returns-then-is_none c =
    let short : length c.args.bytes.now < c.args.at + 8 = grind (arith, common_steps) in
    (sym (lt-leb _ _ short), sym (not_written 8 _ _ _ short))

pub returns : goal.returns
returns c =
    let fits : c.args.at + 8 ≤ length c.args.bytes.now = grind (arith, common_steps) in
    (sym (le-leb _ _ fits), write 8 c.args.value _ _ _ _ fits (omega arith) (c.copy_from_slice.ensures.after ∙ c.to_le_bytes.ensures))
