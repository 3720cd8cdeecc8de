-- `framed::judge_call` meets its contract: each part that it hands on is the one that the frame names.
-- Assumes nothing.
use Rattle.framed.proofs.judge_call.Goals as goal

pub returns-clause-value : goal.returns-clause-value
returns-clause-value c = rw (← c.of.ensures, ← c.of-2.ensures, ← c.of-3.ensures, ← c.of-4.ensures) c.judge.ensures.0

pub returns-clause-region_after : goal.returns-clause-region_after
returns-clause-region_after c = rw (← c.of.ensures, ← c.of-2.ensures, ← c.of-3.ensures, ← c.of-4.ensures) c.judge.ensures.1
