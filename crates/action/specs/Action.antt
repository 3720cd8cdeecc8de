-- An action: its type, its expiry and its data; the types with their data lengths, and when an action is expired.
-- Assumes nothing.
use Rattle.std.specs.Prelude.{ℕ, Bool, not, cond, ◌&&◌, List, [], ◌∷◌, eqb, ltb}

-- an action: its type's code, the slot after which it is expired (0: never), and its data
pub record Action : Type 0 where
  pub kind : ℕ
  pub expires : ℕ
  pub payload : List ℕ

-- ---- the types and their data lengths

abbrev pub sol_limit : ℕ
sol_limit = 1

abbrev pub sol_recurring_limit : ℕ
sol_recurring_limit = 2

abbrev pub sol_max_per_tx : ℕ
sol_max_per_tx = 3

abbrev pub token_limit : ℕ
token_limit = 4

abbrev pub token_recurring_limit : ℕ
token_recurring_limit = 5

abbrev pub token_max_per_tx : ℕ
token_max_per_tx = 6

abbrev pub program_whitelist : ℕ
program_whitelist = 10

abbrev pub program_blacklist : ℕ
program_blacklist = 11

-- a type's code and its data's length
pub record Typed : Type 0 where
  pub code : ℕ
  pub size : ℕ

abbrev pub types : List Typed
types =
    record { code = sol_limit; size = 8 }
    ∷ record { code = sol_recurring_limit; size = 32 }
    ∷ record { code = sol_max_per_tx; size = 8 }
    ∷ record { code = token_limit; size = 40 }
    ∷ record { code = token_recurring_limit; size = 64 }
    ∷ record { code = token_max_per_tx; size = 40 }
    ∷ record { code = program_whitelist; size = 32 }
    ∷ record { code = program_blacklist; size = 32 }
    ∷ []

-- the data length that some types list for a code, 0 for a code that is none of theirs
unfoldable pub size_among : ℕ → List Typed → ℕ
size_among code [] = 0
size_among code (t ∷ ts) = cond (eqb code t.code) t.size (size_among code ts)

-- a code's data length, 0 for an unknown code
unfoldable pub data_length : ℕ → ℕ
unfolding size_among
data_length code = size_among code types

-- ---- expiry

-- expired: the expiry is not 0 and the slot is above it
unfoldable pub expired : ℕ → ℕ → Bool
expired expires slot = not (eqb expires 0) && ltb expires slot
