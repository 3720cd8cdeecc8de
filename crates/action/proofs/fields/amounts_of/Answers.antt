-- `action::fields::amounts_of` meets its contract: the data without the mint, or nothing where it is shorter than that.
-- Assumes nothing.
use Prim.Native.Nat.{◌-◌, ◌<◌, ◌≤◌}
use mathlib.Core.Path.{◌∙◌}
use native.Mathlib.Omega.{arith}
use lib.ListN.{length, drop, length-drop}
use lib.Seq.{take_all}
use Rattle.action.specs.Fields.{mint_length}
use Rattle.action.proofs.Views.{amounts_at, no_amounts}
use Rattle.action.proofs.fields.amounts_of.Goals as goal

pub returns-then-payload-skip : goal.returns-then-payload-skip
returns-then-payload-skip c =
    let skip = c.mint_length-skip in
    let found = c.data_of-payload in
    let start = c.args in
    let short : length found.result.now < mint_length start.view.kind = rw (← skip.ensures) (omega arith) in
    no_amounts _ _ _ found.ensures short

pub returns : goal.returns
returns c =
    let skip = c.mint_length-skip in
    let found = c.data_of-payload in
    let rest = drop skip.result found.result.now in
    let whole : length rest ≤ length found.result.now - skip.result = rw (length-drop skip.result found.result.now) (omega arith) in
    take_all _ rest whole ∙ rw skip.ensures (amounts_at _ _ _ found.ensures)
