-- `region::read_actions` meets its contract. The loop's invariant is `CutSoFar`; what is left of the region falls.
-- Assumes nothing.
use mathlib.Core.Path.{sym, ◌∙◌}
use native.Mathlib.Omega.{arith}
use Rattle.std.proofs.lemmas.Result.{err_from_is_err_and}
use Rattle.std.proofs.lemmas.Bool.Decides.{nat_tests}
use Rattle.answer.proofs.Lent.{answer_given}
use Rattle.region.specs.Views.{views_of}
use Rattle.region.proofs.Parsing.{cut_none, cut-one, cut_all, cut_too_many, cut-stopped, cut_moves, cut_stays}
use Rattle.region.proofs.read_actions.Goals as goal

pub loop-at-init : goal.loop-at-init
loop-at-init c = rw c.requires (cut_none _)

pub loop-at-preserved : goal.loop-at-preserved
loop-at-preserved c = rw c.push.ensures.items (cut-one c.loop-at.invariant (omega arith) (grind (arith, nat_tests)) c.in_ok-view.view (sym c.read_header.ensures ∙ c.in_ok-view.was))

pub returns-then-is_full : goal.returns-then-is_full
unfolding views_of
returns-then-is_full c = record { answer = rw (cut_too_many c.loop-at.invariant (omega arith) (grind (arith, nat_tests))); all = tt }

pub returns-in_err-view : goal.returns-in_err-view
unfolding views_of
returns-in_err-view c =
    let p = err_from_is_err_and c.from_residual.result c.from_residual.ensures.1 in
    let stopped = cut-stopped c.loop-at.invariant (omega arith) (grind (arith, nat_tests)) _ (sym c.read_header.ensures ∙ c.in_err-view.was) in
    rw (p.1, p.2) (record { answer = rw stopped; all = tt })

pub overflow_add-at : goal.overflow_add-at
overflow_add-at c = omega (arith, cut_stays c.loop-at.invariant (omega arith) (grind (arith, nat_tests)) c.in_ok-view.view (sym c.read_header.ensures ∙ c.in_ok-view.was))

pub loop-at-smaller : goal.loop-at-smaller
loop-at-smaller c = omega (arith, cut_moves c.loop-at.invariant (omega arith) (grind (arith, nat_tests)) c.in_ok-view.view (sym c.read_header.ensures ∙ c.in_ok-view.was))

pub returns : goal.returns
returns c =
    let all = cut_all c.loop-at.invariant (omega arith) in
    record { answer = answer_given _ _ all; all = all }
