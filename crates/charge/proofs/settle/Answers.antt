-- `charge::settle` meets its contract. The loop's invariant: settling what is left gives what settling all of it gave.
-- Assumes nothing.
use mathlib.Core.Path.{sym, ◌∙◌}
use mathlib.Core.Logic.{inl, inr, ⊎_elim}
use Rattle.charge.proofs.Charging.{settle_step, settle_end}
use Rattle.charge.proofs.settle.Goals as goal

pub loop-view-init : goal.loop-view-init
loop-view-init c =
    rw (c.into_iter-view-iterator.ensures.into_iter_gives, c.zip-view-items.ensures.first, c.zip-view-items.ensures.second.0, c.iter.ensures.rest)

pub loop-view-preserved : goal.loop-view-preserved
loop-view-preserved c =
    let step = c.in-Some.ensures.steps in
    rw c.apply_change.ensures (sym (settle_step c.args.slot step.0 step.1 c.loop-view.region _ c.change_of-change.ensures) ∙ c.loop-view.invariant)

pub returns : goal.returns
returns c =
    sym (settle_end _ _ _ _ (⊎_elim (λ e. inl e.1.0) (λ e. inr e.1.0) c.in-None.ensures.steps)) ∙ c.loop-view.invariant
