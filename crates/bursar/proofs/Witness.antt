-- The sentence of the witness: the theorems, applied to sums that were computed.
-- Assumes nothing.
use mathlib.Core.Path.{◌≡◌}
use mathlib.Core.List.{[], ◌∷◌}
use Prim.Native.Nat.{ℕ, ◌+◌, ◌<◌, ◌≤◌}
use lib.Dec.{lit≤}
use Rattle.number.specs.Number.{highest}
use Rattle.bursar.specs.Run.{Slotted, ours, Fund, sol, tokens}
use Rattle.bursar.specs.Limits.{taken_at}
use Rattle.bursar.specs.Judges.{sums}
use Rattle.bursar.specs.Witness.{paper, pencils, desk, order, term}
use Rattle.bursar.proofs.Computed.{witness_computed, witness_created}
use Rattle.bursar.proofs.Judges.{ours_keeps_the_sentence, adds_up, is_within}

-- the opening amount, what is left and what was taken of a fund, and that they add up
abbrev pub Adds : Fund → ℕ → ℕ → ℕ → Type 0
Adds fund opening end took = (sums fund ours (desk 100 50 20 0 0) term ≡ opening ∷ end ∷ took ∷ []) × (end + took ≡ opening)

adds : (fund : Fund) (opening end took : ℕ) → sums fund ours (desk 100 50 20 0 0) term ≡ opening ∷ end ∷ took ∷ [] → Adds fund opening end took
adds fund opening end took is = (is, adds_up ours fund (desk 100 50 20 0 0) term witness_created opening end took is ours_keeps_the_sentence.left)

pub sol_adds_up : Adds sol 100 90 10
sol_adds_up = adds sol 100 90 10 witness_computed.of_sol

pub paper_adds_up : Adds (tokens paper) 50 10 40
paper_adds_up = adds (tokens paper) 50 10 40 witness_computed.of_paper

pub pencils_add_up : Adds (tokens pencils) 20 12 8
pencils_add_up = adds (tokens pencils) 20 12 8 witness_computed.of_pencils

slots_fit : Slotted term
unfolding term order highest
slots_fit = (lit≤ tt, (lit≤ tt, (lit≤ tt, (lit≤ tt, (lit≤ tt, (lit≤ tt, (lit≤ tt, tt)))))))

small : 30 < highest
unfolding highest
small = lit≤ tt

-- whichever last reset they leave: 15 were taken in the first window, 25 in the second
pub each_window_of_paper_is_within_its_limit : (slot : ℕ) → taken_at slot (tokens paper) ours (desk 100 50 20 0 0) term ≤ 30
each_window_of_paper_is_within_its_limit =
    is_within ours (tokens paper) (desk 100 50 20 0 0) term witness_created slots_fit 30 witness_computed.window small ours_keeps_the_sentence.windows
