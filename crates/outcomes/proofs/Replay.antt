-- That each public function's contract leaves one outcome: the replay's input.
-- Assumes nothing.
use mathlib.Core.Path.{refl}
use Rattle.frame.proofs as frame
use Rattle.frame.specs.contracts as frame-contracts
use Rattle.framed.proofs as framed
use Rattle.framed.specs.contracts as framed-contracts
use Rattle.run.proofs as run
use Rattle.run.specs.contracts as run-contracts
use Rattle.outcomes.specs.Outcome.{OneOutcome, OneOutcomeOfSlice}
use Rattle.outcomes.proofs.Laws.{both, one-outcome}

pub frame-Part-of : OneOutcomeOfSlice frame-contracts.Part.of.ended frame.Part.of.Reads.Pre frame.Part.of.Reads.Post
frame-Part-of _ _ = (tt, λ _ _ p q. both (one-outcome p q) refl)

pub frame-opening_size : OneOutcome frame-contracts.opening_size.ended frame.opening_size.Reads.Pre frame.opening_size.Reads.Post
frame-opening_size _ _ = (tt, λ _ _ p q. both (one-outcome p q) refl)

pub frame-call_size : OneOutcome frame-contracts.call_size.ended frame.call_size.Reads.Pre frame.call_size.Reads.Post
frame-call_size _ _ = (tt, λ _ _ p q. both (one-outcome p q) refl)

pub frame-read_call : OneOutcome frame-contracts.read_call.ended frame.read_call.Reads.Pre frame.read_call.Reads.Post
frame-read_call _ _ = (tt, λ _ _ p q. both (one-outcome p q) refl)

pub framed-judge_call : OneOutcome framed-contracts.judge_call.ended framed.judge_call.Reads.Pre framed.judge_call.Reads.Post
framed-judge_call _ _ = (tt, λ _ _ p q. both (one-outcome p.0 q.0) (both (one-outcome p.1 q.1) refl))

pub framed-hear_opening : OneOutcome framed-contracts.hear_opening.ended framed.hear_opening.Reads.Pre framed.hear_opening.Reads.Post
framed-hear_opening _ _ = (tt, λ _ _ p q. both (one-outcome p q) refl)

pub framed-hear_call : OneOutcome framed-contracts.hear_call.ended framed.hear_call.Reads.Pre framed.hear_call.Reads.Post
framed-hear_call _ _ = (tt, λ _ _ p q. both (one-outcome p.0 q.0) (both (one-outcome p.1 q.1) refl))

pub run-State-new : OneOutcome run-contracts.State.new.ended run.State.new.Reads.Pre run.State.new.Reads.Post
run-State-new _ _ = (tt, λ _ _ p q. both (one-outcome p q) refl)

pub run-State-end : OneOutcome run-contracts.State.end.ended run.State.end.Reads.Pre run.State.end.Reads.Post
run-State-end _ _ = (tt, λ _ _ p q. both (one-outcome p q) refl)

pub run-feed : OneOutcome run-contracts.feed.ended run.feed.Reads.Pre run.feed.Reads.Post
run-feed _ _ = (
  tt,
  λ _ _ p q.
      both (one-outcome p.0 q.0) (both refl (both (one-outcome p.1.0 q.1.0) (both (one-outcome p.1.1 q.1.1) refl))),
)
