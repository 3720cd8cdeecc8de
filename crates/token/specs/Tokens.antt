-- Token accounts: which records are counted, and their mint, holder and amount.
-- Assumes nothing.
use Rattle.std.specs.Prelude.{ℕ, Bool, not, ◌&&◌, ◌||◌, List, [], ◌∷◌, eqb, ltb, length, get_or, take, drop}
use Rattle.number.specs.Number.{number_at}
use Rattle.key.specs.Key.{same_key}
use Rattle.account.specs.Record.{Record}

-- the two token programs
abbrev pub spl_token : List ℕ
spl_token =
    6 ∷ 221 ∷ 246 ∷ 225 ∷ 215 ∷ 101 ∷ 161 ∷ 147 ∷ 217 ∷ 203 ∷ 225 ∷ 70 ∷ 206 ∷ 235 ∷ 121 ∷ 172
    ∷ 28 ∷ 180 ∷ 133 ∷ 237 ∷ 95 ∷ 91 ∷ 55 ∷ 145 ∷ 58 ∷ 140 ∷ 245 ∷ 133 ∷ 126 ∷ 255 ∷ 0 ∷ 169 ∷ []

abbrev pub token2022 : List ℕ
token2022 =
    6 ∷ 221 ∷ 246 ∷ 225 ∷ 238 ∷ 117 ∷ 143 ∷ 222 ∷ 170 ∷ 164 ∷ 12 ∷ 4 ∷ 223 ∷ 116 ∷ 174 ∷ 240
    ∷ 70 ∷ 137 ∷ 163 ∷ 89 ∷ 77 ∷ 149 ∷ 128 ∷ 12 ∷ 61 ∷ 73 ∷ 196 ∷ 253 ∷ 210 ∷ 164 ∷ 82 ∷ 159 ∷ []

-- the bytes of a token account; Token-2022 may put more behind them
abbrev pub token_account_length : ℕ
token_account_length = 165

-- what comes next where a longer record is an account (1: a mint)
abbrev pub account_type : ℕ
account_type = 2

-- the bytes of a multisignature record, which is no account
abbrev pub multisig_length : ℕ
multisig_length = 355

-- whether data is a token account's under Token-2022: 165 bytes, or more where byte 165 says so and it is no multisignature record
abbrev pub is_token2022_account : List ℕ → Bool
is_token2022_account p =
    eqb (length p) token_account_length
    || ltb token_account_length (length p) && eqb (get_or p token_account_length 0) account_type && not (eqb (length p) multisig_length)

-- whether a record is a token account: under SPL Token with exactly 165 bytes, under Token-2022 as above
unfoldable pub is_token_account : Record → Bool
is_token_account r =
    same_key r.owner spl_token && eqb (length r.payload) token_account_length
    || same_key r.owner token2022 && is_token2022_account r.payload

-- the mint of a token account's data: 0..32
abbrev pub mint_of : Record → List ℕ
mint_of r = take 32 r.payload

-- whose account it is: 32..64
abbrev pub holder_of : Record → List ℕ
holder_of r = take 32 (drop 32 r.payload)

-- its amount: 64..72
abbrev pub amount_of : Record → ℕ
amount_of r = number_at 8 r.payload 64

-- whether a record is a token account of the vault
unfoldable pub is_counted : List ℕ → Record → Bool
unfolding is_token_account
is_counted vault r = is_token_account r && same_key (holder_of r) vault
