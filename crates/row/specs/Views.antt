-- The actions of a region as the code has them: a row of views.
-- Assumes nothing.
use Rattle.std.specs.Prelude.{ℕ, List, map}
use Rattle.action.specs.declared.ActionView.{ActionView}
use Rattle.action.specs.Action.{Action}
use Rattle.action.specs.Views.{action_at}

-- the types' codes of the actions of a row
unfoldable pub kinds_in : List ActionView → List ℕ
kinds_in views = map (λ (v : ActionView). v.kind) views

-- the actions that the views of a row name
unfoldable pub actions_in : List ℕ → List ActionView → List Action
unfolding action_at
actions_in s views = map (action_at s) views
