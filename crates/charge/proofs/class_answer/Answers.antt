-- `charge::class_answer` meets its contract. The loop's invariant: the charges that are left answer what all do.
-- Assumes nothing.
use mathlib.Core.Path.{sym, ◌∙◌}
use mathlib.Core.Logic.{inl, inr, ⊎_elim}
use Rattle.std.proofs.lemmas.Result.{err_from_is_err_and}
use Rattle.action.specs.Views.{action_at}
use Rattle.charge.proofs.Charging.{class_refused, class_passed, class_end}
use Rattle.charge.proofs.class_answer.Goals as goal

pub loop-view-init : goal.loop-view-init
loop-view-init c =
    rw (c.into_iter-view-iterator.ensures.into_iter_gives, c.zip-view-items.ensures.first, c.zip-view-items.ensures.second.0, c.iter.ensures.rest)

pub loop-view-preserved : goal.loop-view-preserved
unfolding action_at
loop-view-preserved c =
    let step = c.in-Some.ensures.steps in
    sym (class_passed c.args.class c.args.slot c.args.region.now step.0 step.1 _ c.class_rule.ensures _ c.in_ok-class_rule.was) ∙ c.loop-view.invariant

pub returns-in_err-class_rule : goal.returns-in_err-class_rule
unfolding action_at
returns-in_err-class_rule c =
    let p = err_from_is_err_and c.from_residual.result c.from_residual.ensures.1 in
    let step = c.in-Some.ensures.steps in
    rw (p.1, p.2) (sym (class_refused c.args.class c.args.slot c.args.region.now step.0 step.1 _ c.class_rule.ensures _ c.in_err-class_rule.was) ∙ c.loop-view.invariant)

pub returns : goal.returns
returns c =
    sym (class_end _ _ _ _ _ (⊎_elim (λ e. inl e.1.0) (λ e. inr e.1.0) c.in-None.ensures.steps)) ∙ c.loop-view.invariant
