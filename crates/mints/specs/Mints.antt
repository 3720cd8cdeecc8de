-- The mints that a region's token actions list, live or expired.
-- Assumes nothing.
use Rattle.std.specs.Prelude.{ℕ, Bool, false, ◌&&◌, ◌||◌, List, [], ◌∷◌}
use Rattle.key.specs.Key.{same_key}
use Rattle.action.specs.Action.{Action}
use Rattle.action.specs.Fields.{is_token, key_of}

-- whether a mint is in any token action
unfoldable pub is_listed : List ℕ → List Action → Bool
is_listed mint [] = false
is_listed mint (a ∷ l) = is_token a.kind && same_key (key_of a) mint || is_listed mint l
