-- Laws of the actions that some views name: their types' codes, and how often one is among them.
-- Assumes nothing.
use mathlib.Core.Path.{◌≡◌, refl, ap, ◌∙◌}
use mathlib.Core.Bool.{Bool, true, false, cond, ◌&&◌}
use mathlib.Core.List.{List, [], ◌∷◌, map-map}
use Prim.Native.Nat.{ℕ, ◌+◌}
use Rattle.std.specs.List.{filter}
use native.Mathlib.Omega.{arith}
use lib.Dec.{eqb}
use lib.ListN.{length}
use Rattle.action.specs.declared.ActionView.{ActionView}
use Rattle.action.specs.Action.{Action}
use Rattle.action.specs.Fields.{is_token}
use Rattle.action.specs.Views.{action_at}
use Rattle.row.specs.Views.{actions_in, kinds_in}
use Rattle.creation.specs.Creation.{how_often, kinds_of, mint_again, mint_repeats}

-- the types' codes are those of the actions
pub kinds_of_actions : (s : List ℕ) (views : List ActionView) → kinds_of (actions_in s views) ≡ kinds_in views
unfolding actions_in action_at kinds_in
kinds_of_actions s views = map-map (λ (a : Action). a.kind) (action_at s) views

-- the views of a type are as many as its code is among the types' codes
pub often_counted : (views : List ActionView) (kind : ℕ) → length (filter (λ (v : ActionView). eqb v.kind kind) views) ≡ how_often kind (kinds_in views)
unfolding how_often kinds_in
often_counted [] kind = refl
often_counted (v ∷ views) kind = one_more (eqb v.kind kind) ∙ ap (λ (n : ℕ). cond (eqb v.kind kind) 1 0 + n) (often_counted views kind)
  where
    one_more : (t : Bool) → length (cond t (v ∷ filter (λ (w : ActionView). eqb w.kind kind) views) (filter (λ (w : ActionView). eqb w.kind kind) views)) ≡ cond t 1 0 + length (filter (λ (w : ActionView). eqb w.kind kind) views)
    one_more true = omega arith
    one_more false = omega arith

-- ---- whether a mint repeats among some views, from the first of them

module _ (s : List ℕ) {left others : List ActionView} {v : ActionView} (first : left ≡ v ∷ others) where
  pub repeats_found : (is_token v.kind && mint_again (action_at s v) (actions_in s others)) ≡ true → mint_repeats (actions_in s left) ≡ true
  unfolding mint_repeats actions_in action_at
  repeats_found e = rw (first, e)

  pub repeats_passed : (is_token v.kind && mint_again (action_at s v) (actions_in s others)) ≡ false
      → mint_repeats (actions_in s left) ≡ mint_repeats (actions_in s others)
  unfolding mint_repeats actions_in action_at
  repeats_passed e = rw (first, e)

pub repeats_end : (s : List ℕ) (left : List ActionView) → length left ≡ 0 → mint_repeats (actions_in s left) ≡ false
unfolding mint_repeats actions_in
repeats_end s [] e = refl
repeats_end s (v ∷ left) e = absurd (omega arith)
