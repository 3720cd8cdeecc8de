-- `creation::mint_repeats` meets its contract. The loop's invariant: some mint repeats where one does among the views that are left.
-- Assumes nothing.
use mathlib.Core.Path.{◌≡◌}
use lib.ListN.{length}
use Rattle.row.specs.Views.{actions_in}
use Rattle.creation.specs.Creation.{mint_repeats}
use Rattle.creation.proofs.mint_repeats.Given as goal

abbrev pub invariant-loop-view : goal.invariant-loop-view
invariant-loop-view l = mint_repeats (actions_in l.region l.left) ≡ mint_repeats (actions_in l.region l.views)

abbrev pub decreases-loop-view : goal.decreases-loop-view
decreases-loop-view l = length l.left
