-- `change::apply_change` meets its contract: the amounts are lent where they lie, and nothing where the view passes the end.
-- Assumes nothing.
use Prim.Native.Nat.{◌<◌}
use native.Mathlib.Omega.{arith}
use Rattle.action.specs.Fields.{mint_length}
use Rattle.change.proofs.Writing.{written_past, written_short, written_part}
use Rattle.change.proofs.apply_change.Goals as goal

pub returns-then-region-len : goal.returns-then-region-len
returns-then-region-len c =
    let start = c.args in
    written_past start.region.now start.view _ (omega arith)

pub returns-then-region-len-2 : goal.returns-then-region-len-2
returns-then-region-len-2 c =
    let start = c.args in
    written_past start.region.now start.view _ (omega arith)

pub returns-then-len-skip : goal.returns-then-len-skip
returns-then-len-skip c =
    let start = c.args in
    let short : start.view.len < mint_length start.view.kind = rw (← c.mint_length-skip.ensures) (omega arith) in
    written_short start.region.now start.view (omega arith) start.change short

pub returns : goal.returns
returns c =
    let start = c.args in
    let skip = c.mint_length-skip in
    rw c.write_change.ensures
    (written_part start.region.now start.view (omega arith) start.change skip.result skip.ensures (omega arith))
