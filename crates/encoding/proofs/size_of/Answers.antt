-- `encoding::size_of` meets its contract. The loop's invariant: sizing on from the entry at hand gives what sizing from the first gives.
-- Assumes nothing.
use native.Mathlib.Omega.{arith}
use Rattle.std.proofs.lemmas.Result.{err_from_is_err_and}
use Rattle.compact.specs.Compact.{most_instructions, most_accounts, most_payload}
use Rattle.encoding.proofs.Writing.{sized_none, sized_all, sized_short, one_small, sized_one}
use Rattle.encoding.proofs.size_of.Goals as goal

pub loop-entry-init : goal.loop-entry-init
loop-entry-init c = sized_none _ _

pub returns-in_err-size : goal.returns-in_err-size
returns-in_err-size c =
    let p = err_from_is_err_and c.from_residual.result c.from_residual.ensures.1 in
    rw (p.1, p.2) (sized_short c.loop-entry.invariant (omega arith) _ c.size_of_one.result c.size_of_one.ensures c.in_err-size.field-0.0 c.in_err-size.was)

pub overflow_add-size : goal.overflow_add-size
unfolding most_instructions most_accounts most_payload
overflow_add-size c =
    omega (arith, c.loop-entry.invariant.small, one_small c.loop-entry.invariant (omega arith) _ c.size_of_one.result c.size_of_one.ensures _ c.in_ok-size.was)

pub loop-entry-preserved : goal.loop-entry-preserved
loop-entry-preserved c = sized_one c.loop-entry.invariant (omega arith) _ c.size_of_one.result c.size_of_one.ensures _ c.in_ok-size.was

pub returns : goal.returns
returns c = sized_all c.loop-entry.invariant (omega arith)
