-- `creation::mint_repeats` meets its contract. The loop's invariant: some mint repeats where one does among the views that are left.
-- Assumes nothing.
use mathlib.Core.Path.{sym, ◌∙◌}
use Rattle.creation.proofs.Scanning.{repeats_found, repeats_passed, repeats_end}
use Rattle.creation.proofs.mint_repeats.Goals as goal

pub returns-then-mint_repeats_at : goal.returns-then-mint_repeats_at
returns-then-mint_repeats_at c =
    sym (repeats_found _ c.in-Some.ensures.cases.0 (sym c.mint_repeats_at.ensures ∙ c.if-mint_repeats_at.true)) ∙ c.loop-view.invariant

pub loop-view-preserved : goal.loop-view-preserved
loop-view-preserved c =
    sym (repeats_passed _ c.in-Some.ensures.cases.0 (sym c.mint_repeats_at.ensures ∙ c.if-mint_repeats_at.false)) ∙ c.loop-view.invariant

pub returns : goal.returns
returns c = sym (repeats_end _ _ c.in_default.ensures.cases) ∙ c.loop-view.invariant
