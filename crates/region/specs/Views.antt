-- Where the actions of a region lie: the values that the code answers with, each from the actions that were cut.
-- Assumes nothing.
use Rattle.std.specs.Prelude.{ℕ, ◌+◌, List, [], ◌∷◌, length, drop}
use Rattle.arrayvec.specs.ArrayVec.{ArrayVec}
use Rattle.answer.specs.Refusable.{Refusable, change}
use Rattle.action.specs.declared.ActionView.{ActionView}
use Rattle.action.specs.Action.{Action}
use Rattle.region.specs.Region.{First, first, header_length}

-- the view of an action whose header starts at a place
unfoldable pub action_view_at : ℕ → Action → ActionView
action_view_at place a = record { kind = a.kind; expires = a.expires; at = place + header_length; len = length a.payload }

-- the views of a row of actions, the first at a place
unfoldable pub action_views_from : ℕ → List Action → List ActionView
unfolding action_view_at
action_views_from place [] = []
action_views_from place (a ∷ l) = action_view_at place a ∷ action_views_from (place + header_length + length a.payload) l

-- what reading the header at a place answers
unfoldable pub header_at : List ℕ → ℕ → Refusable ActionView
unfolding action_view_at
header_at s at = change (λ (f : First). action_view_at at f.act) (first (drop at s))

-- a region's actions: the views of those that were cut
unfoldable pub views_of : Refusable (List Action) → Refusable (ArrayVec ActionView)
unfolding action_views_from
views_of cutting = change (λ (l : List Action). record { items = action_views_from 0 l }) cutting
