-- `judge::judge` meets its contract: the vault key and the table before are looked at first, and the rest of the steps on what was cut.
-- Assumes nothing.
use mathlib.Core.Path.{sym, ◌∙◌}
use native.Mathlib.Omega.{arith}
use Rattle.std.proofs.lemmas.Result.{err_from_is_err_and}
use Rattle.answer.proofs.Lent.{refused_lent, given_lent}
use Rattle.table.proofs.Views.{table_malformed, table_sound}
use Rattle.judge.specs.Views.{call_lent}
use Rattle.judge.proofs.Steps.{vault_refused, before_refused}
use Rattle.judge.proofs.judge.Goals as goal

pub returns-then-call-ne-KEY_LENGTH : goal.returns-then-call-ne-KEY_LENGTH
returns-then-call-ne-KEY_LENGTH c =
    vault_refused c.args.region.now (call_lent c.args.call) (omega arith)

pub returns-in_err-cut_into : goal.returns-in_err-cut_into
returns-in_err-cut_into c =
    let p = err_from_is_err_and c.from_residual.result c.from_residual.ensures.1 in
    let refused = table_malformed _ _ (refused_lent _ _ (sym c.in_err-cut_into.was ∙ c.cut_into.ensures.answer)) in
    rw (p.1, p.2) (before_refused c.args.region.now (call_lent c.args.call) (omega arith) refused)

pub judge_after-requires : goal.judge_after-requires
judge_after-requires c =
    let cutting = given_lent _ _ _ (sym c.in_ok-cut_into.was ∙ c.cut_into.ensures.answer) c.cut_into.ensures.views_after in
    (omega arith, rw c.as_slice.ensures.value (table_sound _ _ cutting).0)

pub returns : goal.returns
returns c = c.judge_after.ensures
