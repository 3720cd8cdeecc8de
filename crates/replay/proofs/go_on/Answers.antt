-- a run uses no more than it is fed, by the run's laws, and the end of the input uses nothing
use Rattle.std.proofs.Common.{arith}
use Rattle.run.proofs.Used.{used_within, end_uses_nothing}
use Rattle.replay.proofs.go_on.Goals as goal

pub returns-then-ended : goal.returns-then-ended
returns-then-ended c = rw (c.end.ensures, end_uses_nothing) (omega arith)

pub returns : goal.returns
returns c = rw c.feed.ensures.value (used_within _ _ _ _)
