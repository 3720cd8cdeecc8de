-- Step 6: the authorities of the vault's token accounts of listed mints stay as they were.
-- Assumes nothing.
use Rattle.std.specs.Prelude.{ℕ, Bool, true, false, not, ◌&&◌, ◌||◌, List, [], ◌∷◌}
use Rattle.std.proofs.Math.Option.{Option, none, some}
use Rattle.part.specs.Part.{part_at}
use Rattle.key.specs.Key.{same_key, same_bytes}
use Rattle.account.specs.Record.{Record}
use Rattle.token.specs.Tokens.{is_token_account, is_counted, mint_of}

-- the first record with a key
unfoldable pub first_with_key : List ℕ → List Record → Option Record
first_with_key key [] = none
first_with_key key (r ∷ l) = elim (same_key r.key key) [ true ↦ some r | false ↦ first_with_key key l ]

-- a part of two accounts' data is the same
unfoldable pub same_part : ℕ → ℕ → List ℕ → List ℕ → Bool
same_part at size p q = same_bytes (part_at p at size) (part_at q at size)

-- the frozen fields of two token accounts' data are the same: owner (32..64), delegate (72..108), close authority (129..165)
unfoldable pub same_authorities : List ℕ → List ℕ → Bool
unfolding same_part
same_authorities p q = same_part 32 32 p q && same_part 72 36 p q && same_part 129 36 p q

-- an account with some data is still a token account with the same authorities
unfoldable pub is_still : List ℕ → Record → Bool
unfolding same_authorities
is_still p q = is_token_account q && same_authorities p q.payload

-- what was found, if anything, is
abbrev pub is_found_still : List ℕ → Option Record → Bool
is_found_still p none = false
is_found_still p (some q) = is_still p q

-- a record before keeps the freeze: where it is a counted account of a listed mint, it is still there after
unfoldable pub keeps_freeze : List ℕ → (List ℕ → Bool) → List Record → Record → Bool
unfolding first_with_key is_still
keeps_freeze vault listed after r =
    not (is_counted vault r && listed (mint_of r)) || is_found_still r.payload (first_with_key r.key after)

-- all records before keep it
unfoldable pub all_frozen : List ℕ → (List ℕ → Bool) → List Record → List Record → Bool
unfolding keeps_freeze
all_frozen vault listed after [] = true
all_frozen vault listed after (r ∷ l) = keeps_freeze vault listed after r && all_frozen vault listed after l
