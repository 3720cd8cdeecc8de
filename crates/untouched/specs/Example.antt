-- A call that takes tokens, on a region that limits SOL too.
-- Assumes nothing.
use Rattle.std.specs.Prelude.{ℕ, List, [], ◌∷◌, ◌++◌, replicate}
use Rattle.number.specs.Number.{bytes_of}
use Rattle.action.specs.Action.{sol_limit, token_limit}
use Rattle.region.specs.Region.{glue}
use Rattle.token.specs.Tokens.{spl_token}
use Rattle.judge.specs.Judge.{Call, call_of}

-- a table of one token account: the mint of ones, the vault of zeros, the amount
unfoldable pub holding : ℕ → List ℕ
holding amount =
    bytes_of 2 1 ++ replicate 32 9 ++ spl_token ++ bytes_of 4 165
    ++ replicate 32 1 ++ replicate 32 0 ++ bytes_of 8 amount ++ replicate 93 0

-- a call that takes 40 of its 100 tokens, and no SOL
unfoldable pub taking_tokens : Call
unfolding holding
taking_tokens = call_of (holding 100) (holding 60) (0 ∷ []) (replicate 32 0) 0 0 0 0

-- a SolLimit of 100, and a TokenLimit of 100 for the mint of ones
unfoldable pub both_limits : List ℕ
both_limits =
    glue
    (record { kind = sol_limit; expires = 0; payload = bytes_of 8 100 }
    ∷ record { kind = token_limit; expires = 0; payload = replicate 32 1 ++ bytes_of 8 100 }
    ∷ [])
