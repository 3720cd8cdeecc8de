-- The values that the code answers with: the listed mints as a list of keys.
-- Assumes nothing.
use Rattle.std.specs.Prelude.{cond, List, [], ◌∷◌}
use Rattle.keys.specs.declared.Keys.{Keys}
use Rattle.keys.specs.Views.{keys_of, with_key}
use Rattle.action.specs.Action.{Action}
use Rattle.action.specs.Fields.{is_token, key_of}

-- a list of mints with an action's, if it has one
unfoldable pub with_mint : Keys → Action → Keys
with_mint mints a = cond (is_token a.kind) (with_key mints (key_of a)) mints

-- a list of mints with those of some actions
unfoldable pub with_mints : Keys → List Action → Keys
unfolding with_mint
with_mints mints [] = mints
with_mints mints (a ∷ l) = with_mints (with_mint mints a) l

-- the listed mints, without repeats
unfoldable pub listed_mints : List Action → Keys
unfolding with_mints
listed_mints l = with_mints (keys_of []) l
