-- `judge::judge_cut` meets its contract: an empty region has no rules; the checks decide before the limits; only what passes both is settled.
-- Assumes nothing.
use Prim.Native.Nat.{◌<◌, ◌≤◌}
use mathlib.Core.Path.{refl, sym, ap, ◌∙◌}
use native.Mathlib.Omega.{arith}
use lib.ListN.{length}
use Rattle.std.proofs.lemmas.Bool.Decides.{nat_tests}
use Rattle.std.proofs.lemmas.Result.{err_from_is_err_and}
use Rattle.balance.specs.declared.Sums.{Sums}
use Rattle.charge.specs.Views.{settled_at}
use Rattle.row.specs.Views.{actions_in}
use Rattle.row.proofs.Views.{length_actions}
use Rattle.judge.specs.Views.{amounts_moved}
use Rattle.judge.proofs.Steps.{no_rules, rules_unchecked, rules_checked, none_settled}
use Rattle.judge.proofs.judge_cut.Goals as goal

pub returns-then-is_empty : goal.returns-then-is_empty
returns-then-is_empty c =
    let region = c.args.region.now in
    let views = c.args.views.now in
    let few : length views ≤ 0 = grind (arith, nat_tests) in
    let none : length (actions_in region views) ≤ 0 = rw (length_actions region views) few in
    (sym (no_rules _ _ _ _ _ _ _ none), sym (none_settled _ views _ _ few))

pub returns-in_err-checks_answer : goal.returns-in_err-checks_answer
returns-in_err-checks_answer c =
    let p = err_from_is_err_and c.from_residual.result c.from_residual.ensures.1 in
    let some : 0 < length (actions_in c.args.region.now c.args.views.now) = rw (length_actions c.args.region.now c.args.views.now) (grind (arith, nat_tests)) in
    let refused = rw c.listed_mints-mints.ensures at (sym c.checks_answer.ensures ∙ c.in_err-checks_answer.was) in
    rw (p.1, p.2) (sym (rules_unchecked _ _ _ _ _ _ _ some refused), refl)

pub returns-in_err-limits_answer : goal.returns-in_err-limits_answer
unfolding amounts_moved
returns-in_err-limits_answer c =
    let p = err_from_is_err_and c.from_residual-in_err-limits_answer.result c.from_residual-in_err-limits_answer.ensures.1 in
    let some : 0 < length (actions_in c.args.region.now c.args.views.now) = rw (length_actions c.args.region.now c.args.views.now) (grind (arith, nat_tests)) in
    let passed = rw c.listed_mints-mints.ensures at (sym c.checks_answer.ensures ∙ c.in_ok-checks_answer.was) in
    let refused = rw c.amounts-amounts.ensures at (sym c.limits_answer.ensures ∙ c.in_err-limits_answer.was) in
    rw (p.1, p.2) (sym (rules_checked _ _ _ _ _ _ _ some passed ∙ refused), refl)

pub returns : goal.returns
unfolding amounts_moved
returns c =
    let some : 0 < length (actions_in c.args.region.now c.args.views.now) = rw (length_actions c.args.region.now c.args.views.now) (grind (arith, nat_tests)) in
    let passed = rw c.listed_mints-mints.ensures at (sym c.checks_answer.ensures ∙ c.in_ok-checks_answer.was) in
    let allowed = rw c.amounts-amounts.ensures at (sym c.limits_answer.ensures ∙ c.in_ok-limits_answer.was) in
    (sym (rules_checked _ _ _ _ _ _ _ some passed ∙ allowed), c.settle.ensures ∙ ap (λ (sums : Sums). settled_at c.args.slot c.args.views.now sums.list c.args.region.now) c.amounts-amounts.ensures)
