-- `mints::listed_mints` meets its contract. The loop's invariant: the list with the mints of the views that are left is that of all.
-- Assumes nothing.
use mathlib.Core.Path.{◌≡◌}
use lib.ListN.{drop}
use Rattle.row.specs.Views.{actions_in}
use Rattle.mints.specs.Views.{with_mints, listed_mints}
use Rattle.mints.proofs.listed_mints.Given as goal

abbrev pub invariant-loop-view : goal.invariant-loop-view
invariant-loop-view l = with_mints l.mints (drop l.view-index (actions_in l.region l.views)) ≡ listed_mints (actions_in l.region l.views)
