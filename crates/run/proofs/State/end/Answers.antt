-- `run::State::end` meets its contract, stage by stage.
-- Assumes nothing.
use mathlib.Core.Path.{sym, ◌∙◌}
use native.Mathlib.Omega.{arith}
use Rattle.run.proofs.Laws.{marked_opening, marked_between, marked_inside, marked_over}
use Rattle.run.proofs.State.end.Goals as goal

pub returns-in-Opening : goal.returns-in-Opening
returns-in-Opening c = c.stopped.ensures ∙ sym (marked_opening _ c.in-Opening.is)

pub returns-in-Calls : goal.returns-in-Calls
returns-in-Calls c = c.stopped-in-Calls.ensures ∙ sym (marked_inside _ c.in-Calls.is (λ none. omega arith))

pub returns-in-Calls-2 : goal.returns-in-Calls-2
returns-in-Calls-2 c = grind (arith, marked_between, marked_over)
