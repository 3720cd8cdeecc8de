-- `run::feed` meets its contract, by what is coming.
-- Assumes nothing.
use mathlib.Core.Path.{sym, ◌∙◌}
use Rattle.run.proofs.Laws.{at_opening, at_calls, at_over}
use Rattle.run.proofs.feed.Goals as goal

pub returns-in-Opening : goal.returns-in-Opening
returns-in-Opening c =
    let args = c.args in
    let is = at_opening args.state args.opening.now args.frame.now args.piece.now c.in-Opening.is in
    let made = c.feed_opening.ensures in
    record { value = made.value ∙ sym is.result; opening_after = made.opening_after ∙ sym is.opening_is; frame_after = sym is.frame_is }

pub returns-in-Calls : goal.returns-in-Calls
returns-in-Calls c =
    let args = c.args in
    let is = at_calls args.state args.opening.now args.frame.now args.piece.now c.in-Calls.is in
    let made = c.feed_call.ensures in
    record { value = made.value ∙ sym is.result; opening_after = made.opening_after ∙ sym is.opening_is; frame_after = made.frame_after ∙ sym is.frame_is }

pub returns-in-Over : goal.returns-in-Over
returns-in-Over c =
    let args = c.args in
    let is = at_over args.state args.opening.now args.frame.now args.piece.now c.in-Over.is in
    record { value = c.stopped.ensures ∙ sym is.result; opening_after = sym is.opening_is; frame_after = sym is.frame_is }
