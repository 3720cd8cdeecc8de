-- Laws of balances as the code goes, from the last record to the first.
-- Assumes nothing.
use mathlib.Core.Path.{◌≡◌, sym, ap, ◌∙◌}
use mathlib.Core.Bool.{true, false, and-false}
use mathlib.Core.List.{List, [], ◌∷◌, ◌++◌, map, append_assoc, append-nil}
use Prim.Native.Nat.{ℕ, ◌+◌, ◌^◌, ◌<◌}
use native.Mathlib.Omega.{arith}
use Rattle.number.specs.Number.{capped_sum, highest}
use Rattle.key.specs.Key.{same_key}
use Rattle.std.specs.List.{fold}
use Rattle.account.specs.declared.RecordView.{RecordView}
use Rattle.account.specs.Record.{Record}
use Rattle.account.specs.Views.{record_at, records_in}
use Rattle.token.specs.Tokens.{mint_of, amount_of, is_counted}
use Rattle.balance.specs.Balance.{share, holdings, balance}

-- a total and what the record adds to it
module _ (r : Record) (vault mint : List ℕ) (total : ℕ) where
  pub stays : total < 2 ^ 64 → share vault mint r ≡ 0 → capped_sum total (share vault mint r) ≡ total
  unfolding capped_sum highest
  stays fits e = rw e (omega arith)

  pub stays_other_mint : total < 2 ^ 64 → same_key (mint_of r) mint ≡ false → capped_sum total (share vault mint r) ≡ total
  unfolding share
  stays_other_mint fits e = stays fits (rw (e, and-false))

  pub stays_not_counted : total < 2 ^ 64 → is_counted vault r ≡ false → capped_sum total (share vault mint r) ≡ total
  unfolding share
  stays_not_counted fits e = stays fits (rw e)

  pub grows_counted : is_counted vault r ≡ true → same_key (mint_of r) mint ≡ true → capped_sum total (share vault mint r) ≡ capped_sum total (amount_of r)
  unfolding share
  grows_counted c m = rw (c, m)

module _ (vault mint : List ℕ) where
  pub holdings-append : (l m : List Record) → holdings vault mint (l ++ m) ≡ holdings vault mint l + holdings vault mint m
  unfolding holdings
  holdings-append [] m = omega arith
  holdings-append (r ∷ l) m = rw (holdings-append l m) (omega arith)

  pub balance_push : (l : List Record) (r : Record) → balance vault mint (l ++ (r ∷ [])) ≡ capped_sum (balance vault mint l) (share vault mint r)
  unfolding balance holdings capped_sum
  balance_push l r = rw (holdings-append l (r ∷ [])) (omega arith)

  pub balance_nil : balance vault mint [] ≡ 0
  unfolding balance holdings
  balance_nil = omega arith

  -- the fold over some records on top of those before them
  fold_onto : (s : List ℕ) (l : List Record) (vs : List RecordView) (total : ℕ) → total ≡ balance vault mint l
      → fold (λ (t : ℕ) (v : RecordView). capped_sum t (share vault mint (record_at s v))) total vs ≡ balance vault mint (l ++ map (record_at s) vs)
  fold_onto s l [] total e = e ∙ ap (balance vault mint) (sym (append-nil l))
  fold_onto s l (v ∷ vs) total e =
      let r = record_at s v in
      fold_onto s (l ++ (r ∷ [])) vs _ (ap (λ (t : ℕ). capped_sum t (share vault mint r)) e ∙ sym (balance_push l r))
      ∙ ap (balance vault mint) (append_assoc l (r ∷ []) (map (record_at s) vs))

  pub balance_fold : (s : List ℕ) (vs : List RecordView)
      → fold (λ (t : ℕ) (v : RecordView). capped_sum t (share vault mint (record_at s v))) 0 vs ≡ balance vault mint (records_in s vs)
  unfolding records_in
  balance_fold s vs = fold_onto s [] vs 0 (sym balance_nil)
