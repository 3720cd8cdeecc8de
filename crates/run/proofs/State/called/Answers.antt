-- `run::State::called` meets its contract: an accepted call counts for one.
-- Assumes nothing.
use Rattle.run.specs.Views.{call_said}
use Rattle.run.proofs.Laws.{counted}
use Rattle.run.proofs.State.called.Goals as goal

pub returns : goal.returns
unfolding call_said
returns c =
    let one = counted c.args.answer _ _ c.is_ok.ensures.value c.from.ensures in
    cc (c.capped_sum-calls.ensures, c.capped_sum-accepted.ensures, one)
