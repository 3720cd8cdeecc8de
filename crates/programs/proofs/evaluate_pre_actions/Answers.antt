-- `programs::evaluate_pre_actions` meets its contract. The loop's invariant: the instructions that are left answer what all do.
-- Assumes nothing.
use mathlib.Core.Path.{sym, ◌∙◌}
use native.Mathlib.Numerals.{add-one}
use native.Mathlib.Omega.{arith}
use Rattle.std.proofs.lemmas.Result.{err_from_is_err_and}
use Rattle.programs.proofs.Lists.{programs_refused, programs_passed, programs_end}
use Rattle.programs.proofs.evaluate_pre_actions.Goals as goal

pub loop-program-preserved : goal.loop-program-preserved
loop-program-preserved c =
    rw (add-one c.loop-program.program-index)
    (sym (programs_passed _ _ _ c.args.programs.now c.loop-program.program-index (omega arith) _ c.program_answer.ensures _ c.in_ok-program_answer.was) ∙ c.loop-program.invariant)

pub returns-in_err-program_answer : goal.returns-in_err-program_answer
returns-in_err-program_answer c =
    let p = err_from_is_err_and c.from_residual.result c.from_residual.ensures.1 in
    rw (p.1, p.2)
    (sym (programs_refused _ _ _ c.args.programs.now c.loop-program.program-index (omega arith) _ c.program_answer.ensures _ c.in_err-program_answer.was) ∙ c.loop-program.invariant)

pub returns : goal.returns
returns c = sym (programs_end _ _ _ c.args.programs.now c.loop-program.program-index (omega arith)) ∙ c.loop-program.invariant
