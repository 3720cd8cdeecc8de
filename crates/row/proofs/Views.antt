-- The actions that the views of a row name, one after the other.
-- Assumes nothing.
use mathlib.Core.Path.{◌≡◌}
use mathlib.Core.List.{List, ◌∷◌, map}
use Prim.Native.Nat.{ℕ, suc, ◌<◌}
use lib.ListN.{length, get_or, drop, length-map, get_or-map}
use lib.Seq.{drop-cons}
use Rattle.action.specs.declared.ActionView.{ActionView}
use Rattle.action.specs.Views.{action_at}
use Rattle.row.specs.Views.{actions_in}

pub length_actions : (s : List ℕ) (views : List ActionView) → length (actions_in s views) ≡ length views
unfolding actions_in
length_actions s views = length-map views (action_at s)

pub actions_step : (s : List ℕ) (views : List ActionView) (i : ℕ) (d : ActionView) → i < length views
    → drop i (actions_in s views) ≡ action_at s (get_or views i d) ∷ drop (suc i) (actions_in s views)
unfolding actions_in
actions_step s views i d h =
    let inside : i < length (map (action_at s) views) = simp length-map h in
    rw (drop-cons (map (action_at s) views) i (action_at s d), get_or-map (action_at s) views i d)
