-- Where an action lies in a region: the data that a view names, and what is written there.
-- Assumes nothing.
use Rattle.std.specs.Prelude.{ℕ, ◌+◌, cond, List, ◌++◌, leb, length, take, drop}
use Rattle.part.specs.Part.{part_at}
use Rattle.action.specs.declared.ActionView.{ActionView}
use Rattle.action.specs.Action.{Action}

-- what stands past the last view
abbrev pub zero_action_view : ActionView
zero_action_view = record { kind = 0; expires = 0; at = 0; len = 0 }

-- the data that a view names, or nothing where it passes the end
abbrev pub data_at : List ℕ → ActionView → List ℕ
data_at s v = part_at s v.at v.len

-- the action that a view names
unfoldable pub action_at : List ℕ → ActionView → Action
action_at s v = record { kind = v.kind; expires = v.expires; payload = data_at s v }

-- a region with an action's data written where a view says, or unchanged where that passes the end
unfoldable pub written_at : List ℕ → ActionView → Action → List ℕ
written_at s v a = cond (leb (v.at + v.len) (length s)) (take v.at s ++ a.payload ++ drop (v.at + v.len) s) s
