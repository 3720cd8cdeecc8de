-- The named values of creation, A1 to A5.
-- Assumes nothing.
use Rattle.std.specs.Prelude.{ℕ, zero, suc, List, [], ◌∷◌, ◌++◌, length, take, replicate}
use Rattle.answer.specs.NamedValue.{NamedValue}
use Rattle.answer.specs.Numbers.{number_of, accepted, action_buffer_invalid, action_whitelist_blacklist_conflict}
use Rattle.number.specs.Number.{bytes_of}
use Rattle.action.specs.Action.{Action, sol_limit, program_whitelist, program_blacklist}
use Rattle.region.specs.Region.{glue}
use Rattle.creation.specs.Creation.{creation}

-- ---- actions, and their bytes as document 01 lays them: type (1), data length (2), expires_at (8), data

-- a SolLimit of 100 that never expires
unfoldable pub sol_limit100 : Action
sol_limit100 = record { kind = sol_limit; expires = 0; payload = bytes_of 8 100 }

-- its 19 bytes
unfoldable pub sol_limit100_bytes : List ℕ
sol_limit100_bytes =
    1
    ∷ 8 ∷ 0
    ∷ 0 ∷ 0 ∷ 0 ∷ 0 ∷ 0 ∷ 0 ∷ 0 ∷ 0
    ∷ 100 ∷ 0 ∷ 0 ∷ 0 ∷ 0 ∷ 0 ∷ 0 ∷ 0
    ∷ []

-- the first 10 of them
abbrev pub a3 : List ℕ
a3 = 1 ∷ 8 ∷ 0 ∷ 0 ∷ 0 ∷ 0 ∷ 0 ∷ 0 ∷ 0 ∷ 0 ∷ []

-- a list entry that never expires, for the program of sevens
unfoldable pub entry : ℕ → Action
entry kind = record { kind = kind; expires = 0; payload = replicate 32 7 }

-- the 43 bytes of one: its type is 10 in a whitelist, 11 in a blacklist
unfoldable pub entry_bytes : ℕ → List ℕ
entry_bytes kind =
    kind
    ∷ 32 ∷ 0
    ∷ 0 ∷ 0 ∷ 0 ∷ 0 ∷ 0 ∷ 0 ∷ 0 ∷ 0
    ∷ 7 ∷ 7 ∷ 7 ∷ 7 ∷ 7 ∷ 7 ∷ 7 ∷ 7
    ∷ 7 ∷ 7 ∷ 7 ∷ 7 ∷ 7 ∷ 7 ∷ 7 ∷ 7
    ∷ 7 ∷ 7 ∷ 7 ∷ 7 ∷ 7 ∷ 7 ∷ 7 ∷ 7
    ∷ 7 ∷ 7 ∷ 7 ∷ 7 ∷ 7 ∷ 7 ∷ 7 ∷ 7
    ∷ []

-- some bytes, so many times one after the other
unfoldable pub times : ℕ → List ℕ → List ℕ
times zero bytes = []
times (suc n) bytes = bytes ++ times n bytes

-- ---- the table: that an action's bytes are those above, and what creation answers to them

-- what creation answers, and the region's length
unfoldable pub created : List ℕ → List ℕ
created s = number_of (creation s) ∷ length s ∷ []

unfoldable pub named_values : List NamedValue
unfolding sol_limit100 sol_limit100_bytes entry entry_bytes times created
named_values =
    -- A1: the empty region
    record { gives = created []; named = accepted ∷ 0 ∷ [] }
    -- A2: SolLimit 100, never expiring
    ∷ record { gives = glue (sol_limit100 ∷ []); named = sol_limit100_bytes }
    ∷ record { gives = created sol_limit100_bytes; named = accepted ∷ 19 ∷ [] }
    -- A3: its first 10 bytes
    ∷ record { gives = take 10 sol_limit100_bytes; named = a3 }
    ∷ record { gives = created a3; named = action_buffer_invalid ∷ 10 ∷ [] }
    -- A4: whitelist, blacklist and two SolLimits
    ∷ record {
      gives = glue (entry program_whitelist ∷ entry program_blacklist ∷ sol_limit100 ∷ sol_limit100 ∷ []);
      named = entry_bytes 10 ++ entry_bytes 11 ++ sol_limit100_bytes ++ sol_limit100_bytes;
    }
    ∷ record {
      gives = created (entry_bytes 10 ++ entry_bytes 11 ++ sol_limit100_bytes ++ sol_limit100_bytes);
      named = action_whitelist_blacklist_conflict ∷ 124 ∷ [];
    }
    -- A5: sixteen whitelists, seventeen
    ∷ record { gives = glue (replicate 16 (entry program_whitelist)); named = times 16 (entry_bytes 10) }
    ∷ record { gives = created (times 16 (entry_bytes 10)); named = accepted ∷ 688 ∷ [] }
    ∷ record { gives = glue (replicate 17 (entry program_whitelist)); named = times 17 (entry_bytes 10) }
    ∷ record { gives = created (times 17 (entry_bytes 10)); named = action_buffer_invalid ∷ 731 ∷ [] }
    ∷ []
