-- The amount that an action's rule looks at: how far a balance went down, or what left as SOL.
-- Assumes nothing.
use Rattle.std.specs.Prelude.{ℕ, cond, List, eqb}
use Rattle.number.specs.Number.{floored_difference}
use Rattle.action.specs.Action.{Action, sol_max_per_tx}
use Rattle.action.specs.Fields.{is_token, key_of}
use Rattle.account.specs.Record.{Record}
use Rattle.balance.specs.Balance.{balance}

-- how much a balance went down
unfoldable pub decrease : ℕ → ℕ → ℕ
decrease before after = floored_difference before after

-- how much a mint's balance went down
unfoldable pub decrease_of : List ℕ → List Record → List Record → List ℕ → ℕ
unfolding decrease
decrease_of vault before after mint = decrease (balance vault mint before) (balance vault mint after)

-- what the rule of a type on SOL looks at: for SolMaxPerTx the gross outflow, else the decrease in lamports
unfoldable pub sol_amount : ℕ → ℕ → ℕ → ℕ
sol_amount sol gross kind = cond (eqb kind sol_max_per_tx) gross sol

-- the amount that an action's rule looks at, from the records before and after, the decrease in lamports and the gross outflow
unfoldable pub amount_from : List ℕ → List Record → List Record → ℕ → ℕ → Action → ℕ
unfolding decrease_of sol_amount
amount_from vault before after sol gross a =
    cond (is_token a.kind) (decrease_of vault before after (key_of a)) (sol_amount sol gross a.kind)
