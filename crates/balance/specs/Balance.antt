-- A mint's balance over the counted records of a table.
-- Assumes nothing.
use Rattle.std.specs.Prelude.{ℕ, ◌+◌, min, cond, ◌&&◌, List, [], ◌∷◌}
use Rattle.number.specs.Number.{highest}
use Rattle.key.specs.Key.{same_key}
use Rattle.account.specs.Record.{Record}
use Rattle.token.specs.Tokens.{mint_of, amount_of, is_counted}

-- what a record adds to a mint's balance
unfoldable pub share : List ℕ → List ℕ → Record → ℕ
unfolding is_counted
share vault mint r = cond (is_counted vault r && same_key (mint_of r) mint) (amount_of r) 0

-- what all counted accounts of a mint hold together
unfoldable pub holdings : List ℕ → List ℕ → List Record → ℕ
unfolding share
holdings vault mint [] = 0
holdings vault mint (r ∷ l) = share vault mint r + holdings vault mint l

-- a mint's balance
unfoldable pub balance : List ℕ → List ℕ → List Record → ℕ
unfolding holdings
balance vault mint l = min (holdings vault mint l) highest
