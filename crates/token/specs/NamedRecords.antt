-- Records by name on either side of what is a token account: of both programs, of the lengths that a layout sets apart, with each byte 165.
-- Assumes nothing.
use Rattle.std.specs.Prelude.{ℕ, ◌*◌, Bool, true, false, List, [], ◌∷◌, ◌++◌, take, replicate}
use Rattle.number.specs.Number.{bytes_of}
use Rattle.account.specs.Record.{Record}
use Rattle.token.specs.Tokens.{spl_token, token2022}

-- a record: its owning program, its data's length, its byte 165 where there is one, and whether it is a token account
pub record NamedRecord : Type 0 where
  pub owner : List ℕ
  pub size : ℕ
  pub mark : ℕ
  pub is_account : Bool

unfoldable pub named_records : List NamedRecord
named_records =
    record { owner = spl_token; size = 164; mark = 2; is_account = false }
    ∷ record { owner = spl_token; size = 165; mark = 2; is_account = true }
    ∷ record { owner = spl_token; size = 166; mark = 2; is_account = false }
    ∷ record { owner = spl_token; size = 355; mark = 2; is_account = false }
    ∷ record { owner = token2022; size = 164; mark = 2; is_account = false }
    ∷ record { owner = token2022; size = 165; mark = 2; is_account = true }
    ∷ record { owner = token2022; size = 166; mark = 0; is_account = false }
    ∷ record { owner = token2022; size = 166; mark = 1; is_account = false }
    ∷ record { owner = token2022; size = 166; mark = 2; is_account = true }
    ∷ record { owner = token2022; size = 166; mark = 3; is_account = false }
    ∷ record { owner = token2022; size = 354; mark = 2; is_account = true }
    ∷ record { owner = token2022; size = 355; mark = 2; is_account = false }
    ∷ record { owner = token2022; size = 356; mark = 2; is_account = true }
    ∷ []

-- an account as SPL Token makes it
abbrev pub plain_account : NamedRecord
plain_account = record { owner = spl_token; size = 165; mark = 0; is_account = true }

-- ---- the same records as accounts of a vault

abbrev pub named_mint : List ℕ
named_mint = replicate 32 7

abbrev pub named_vault : List ℕ
named_vault = replicate 32 9

-- with so many tokens of a mint, as eight bytes
unfoldable pub record_of : List ℕ → NamedRecord → Record
record_of amount n =
    record {
      key = replicate 32 3;
      owner = n.owner;
      payload = take n.size (named_mint ++ named_vault ++ amount ++ replicate 93 0 ++ n.mark ∷ replicate 190 0);
    }

-- each with twice the amount of the one before, so that a sum says which of them it is made of
unfoldable pub each_twice : ℕ → List NamedRecord → List Record
unfolding record_of
each_twice amount [] = []
each_twice amount (n ∷ l) = record_of (bytes_of 8 amount) n ∷ each_twice (2 * amount) l
