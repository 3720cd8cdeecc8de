-- What is promised of balances, each as one sentence.
-- Assumes nothing.
use mathlib.Core.Path.{◌≡◌, refl, ◌∙◌}
use mathlib.Core.Bool.{false}
use mathlib.Core.List.{List, ◌∷◌, ◌++◌, Permᴰ}
use Prim.Native.Nat.{ℕ, ◌≤◌}
use native.Mathlib.Omega.{arith}
use Rattle.number.specs.Number.{capped_sum, highest}
use Rattle.account.specs.Record.{Record}
use Rattle.token.specs.Tokens.{is_counted}
use Rattle.balance.specs.Balance.{share, holdings, balance}
use Rattle.balance.proofs.Adding.{holdings-append}

module _ (vault mint : List ℕ) where
  -- the balance of two tables' records one after the other is the capped sum of theirs
  pub balance-append : (l m : List Record) → balance vault mint (l ++ m) ≡ capped_sum (balance vault mint l) (balance vault mint m)
  unfolding balance capped_sum
  balance-append l m = rw (holdings-append vault mint l m) (omega arith)

  holdings-order : {l m : List Record} → Permᴰ l m → holdings vault mint l ≡ holdings vault mint m
  unfolding holdings
  holdings-order Permᴰ.nil = refl
  holdings-order (Permᴰ.cons e d) = rw (e, holdings-order d)
  holdings-order (Permᴰ.swap p q) = rw (p, q) (omega arith)
  holdings-order (Permᴰ.trans d e) = holdings-order d ∙ holdings-order e

  -- the order of records does not matter
  pub the_order_of_records_does_not_matter : {l m : List Record} → Permᴰ l m → balance vault mint l ≡ balance vault mint m
  unfolding balance
  the_order_of_records_does_not_matter d = rw (holdings-order d)

  -- a record that is not counted adds nothing
  pub a_record_not_counted_adds_nothing : (r : Record) (l : List Record) → is_counted vault r ≡ false → balance vault mint (r ∷ l) ≡ balance vault mint l
  unfolding balance holdings share
  a_record_not_counted_adds_nothing r l e = rw e (omega arith)

  -- a balance is at most 2^64 - 1
  pub a_balance_is_capped : (l : List Record) → balance vault mint l ≤ highest
  unfolding balance
  a_balance_is_capped l = omega arith
