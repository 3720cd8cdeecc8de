-- `run::gather` meets its contract, by the two steps of taking bytes and of copying them.
-- Assumes nothing.
use native.Mathlib.Omega.{arith}
use Rattle.run.proofs.Gathering.{tail_part, gathered}
use Rattle.run.proofs.gather.Goals as goal

pub returns : goal.returns
returns c =
    let args = c.args in
    let took = c.fill-first.ensures in
    let both = gathered _ _ args.piece.now _ _ _ _ _ _ _ _ (omega arith) c.wanted-head.ensures.value took.value took.memory_after
    c.wanted-size.ensures.value (tail_part args.piece.now c.fill-first.result) c.fill.ensures.value c.fill.ensures.memory_after in
    record { result_in_bounds = omega arith; value = both.0; memory_after = both.1 }
