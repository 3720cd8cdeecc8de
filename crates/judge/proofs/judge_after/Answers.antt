-- `judge::judge_after` meets its contract: each step that refuses ends the call, and what passes them is judged from what was cut.
-- Assumes nothing.
use mathlib.Core.Path.{refl, sym, ◌∙◌}
use native.Mathlib.Omega.{arith}
use Rattle.std.proofs.lemmas.Result.{err_from_is_err_and}
use Rattle.answer.proofs.Lent.{refused_lent, given_lent}
use Rattle.number.specs.Number.{Bytes}
use Rattle.creation.proofs.Forms.{views_laid}
use Rattle.table.proofs.Views.{table_malformed, table_sound}
use Rattle.outflow.proofs.Amounts.{decreased}
use Rattle.judge.specs.Views.{call_lent, amounts_moved}
use Rattle.judge.proofs.Steps.{records_named, records_after_lem, programs_read, programs_not_read, region_form, region_stored, after_refused, instructions_refused, region_refused, judged-cut}
use Rattle.judge.proofs.judge_after.Goals as goal

pub returns-in_err-cut_into : goal.returns-in_err-cut_into
returns-in_err-cut_into c =
    let p = err_from_is_err_and c.from_residual.result c.from_residual.ensures.1 in
    let call = call_lent c.args.call in
    let malformed = refused_lent _ _ (sym c.in_err-cut_into.was ∙ c.cut_into.ensures.answer) in
    rw (p.1, p.2) (after_refused c.args.region.now call c.requires.0 c.requires.1 (table_malformed _ _ malformed))

pub returns-in_err-programs : goal.returns-in_err-programs
returns-in_err-programs c =
    let p = err_from_is_err_and c.from_residual-in_err-programs.result c.from_residual-in_err-programs.ensures.1 in
    let call = call_lent c.args.call in
    let after_is = (table_sound _ _ (given_lent _ _ _ (sym c.in_ok-cut_into.was ∙ c.cut_into.ensures.answer) c.cut_into.ensures.views_after)).0 in
    rw (p.1, p.2) (instructions_refused c.args.region.now call c.requires.0 c.requires.1 after_is (programs_not_read _ _ (sym c.parse_programs.ensures ∙ c.in_err-programs.was)))

pub returns-in_err-stored_answer : goal.returns-in_err-stored_answer
returns-in_err-stored_answer c =
    let p = err_from_is_err_and c.from_residual-in_err-stored_answer.result c.from_residual-in_err-stored_answer.ensures.1 in
    let call = call_lent c.args.call in
    let after_is = (table_sound _ _ (given_lent _ _ _ (sym c.in_ok-cut_into.was ∙ c.cut_into.ensures.answer) c.cut_into.ensures.views_after)).0 in
    let read = programs_read _ _ (sym c.parse_programs.ensures ∙ c.in_ok-programs.was) in
    let form = region_form _ _ _ c.cut_into-cut.ensures.answer c.cut_into-cut.ensures.views_after in
    let refused = rw c.as_slice.ensures.value at (sym c.stored_answer.ensures ∙ c.in_err-stored_answer.was) in
    rw (p.1, p.2) (region_refused c.args.region.now call c.requires.0 c.requires.1 after_is read.1 (sym form ∙ refused))

pub returns : goal.returns
unfolding amounts_moved
returns c =
    let call = call_lent c.args.call in
    let after = table_sound _ _ (given_lent _ _ _ (sym c.in_ok-cut_into.was ∙ c.cut_into.ensures.answer) c.cut_into.ensures.views_after) in
    let read = programs_read _ _ (sym c.parse_programs.ensures ∙ c.in_ok-programs.was) in
    let (cutting, stored) = region_stored _ _ _ c.cut_into-cut.ensures.answer c.cut_into-cut.ensures.views_after (rw c.as_slice.ensures.value at (sym c.stored_answer.ensures ∙ c.in_ok-stored_answer.was)) in
    let bytes : Bytes c.args.region.now = λ k. omega (arith, c.slice_known-1.given k) in
    judged-cut c.args.region.now call c.requires.0 c.requires.1 after.0 read.1 stored bytes _ (rw c.as_slice-3.ensures.value (views_laid _ _ cutting)) _ refl (rw c.as_slice-3.ensures.value)
    _ _ _ _ _
    refl
    (records_named call _ c.requires.1)
    (rw c.as_slice-2.ensures.value (records_after_lem call _ after.0))
    (c.floored_difference.ensures ∙ decreased _ _ _ _ refl refl)
    refl _ (c.as_slice-4.ensures.value ∙ read.0) _ refl _ _ c.judge_cut.ensures.0 c.judge_cut.ensures.1
