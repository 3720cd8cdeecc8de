-- The values that the code answers with: balances as a list of sixteen, and the totals on the way to them.
-- Assumes nothing.
use Rattle.std.specs.Prelude.{ℕ, ◌-◌, List, [], ◌∷◌, ◌++◌, length, take, replicate}
use Rattle.number.specs.Number.{capped_sum}
use Rattle.account.specs.Record.{Record}
use Rattle.balance.specs.declared.Sums.{Sums}
use Rattle.balance.specs.Balance.{share}

-- the most sums of a list
abbrev pub most_sums : ℕ
most_sums = 16

-- the first sixteen sums, and zeros past the last
unfoldable pub sums_of : List ℕ → Sums
sums_of xs = record { list = take most_sums xs ++ replicate (most_sums - length xs) 0 }

-- totals of some mints, each with what a record adds to it; what stands past the last mint stays
unfoldable pub with_record : List ℕ → Record → List (List ℕ) → List ℕ → List ℕ
unfolding share capped_sum
with_record vault r [] ts = ts
with_record vault r (k ∷ ks) [] = []
with_record vault r (k ∷ ks) (t ∷ ts) = capped_sum t (share vault k r) ∷ with_record vault r ks ts
