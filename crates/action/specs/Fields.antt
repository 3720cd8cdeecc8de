-- The fields of an action's data: a mint or a program of 32 bytes first, where the type has one, then numbers of 8 bytes.
-- Assumes nothing.
use Rattle.std.specs.Prelude.{ℕ, Bool, cond, ◌||◌, List, eqb, take, drop}
use Rattle.number.specs.Number.{number_at}
use Rattle.key.specs.Key.{key_length}
use Rattle.action.specs.Action.{Action, token_limit, token_recurring_limit, token_max_per_tx, sol_recurring_limit}

-- whether a type's data begins with a mint
unfoldable pub is_token : ℕ → Bool
is_token kind = eqb kind token_limit || eqb kind token_recurring_limit || eqb kind token_max_per_tx

-- whether a type's amounts are a limit, what is spent of it, a window and its last reset
unfoldable pub is_recurring : ℕ → Bool
is_recurring kind = eqb kind sol_recurring_limit || eqb kind token_recurring_limit

-- the key that a token action's or a list entry's data begins with
unfoldable pub key_of : Action → List ℕ
key_of a = take key_length a.payload

-- the bytes of the mint before a type's amounts
abbrev pub mint_length : ℕ → ℕ
mint_length kind = cond (is_token kind) key_length 0

-- the amounts of an action: its data, after the mint where it has one
unfoldable pub amounts_of : Action → List ℕ
amounts_of a = drop (mint_length a.kind) a.payload

-- ---- the numbers among some amounts

-- what is left of a limit (types 1 and 4), or the most of one call (3 and 6)
abbrev pub remaining : List ℕ → ℕ
remaining amounts = number_at 8 amounts 0

-- the most of one window (2 and 5), what is spent in it, its slots and the slot that it began at
abbrev pub limit : List ℕ → ℕ
limit amounts = number_at 8 amounts 0

abbrev pub spent : List ℕ → ℕ
spent amounts = number_at 8 amounts 8

abbrev pub window : List ℕ → ℕ
window amounts = number_at 8 amounts 16

abbrev pub last_reset : List ℕ → ℕ
last_reset amounts = number_at 8 amounts 24
