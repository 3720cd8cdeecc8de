-- What has no entry, shown at two signatures: a contract that leaves the answer open, one that leaves open what a lent slice holds at exit, and one
-- that asks something of the arguments. Two outcomes, or arguments, refute each.
-- Assumes nothing.
use Prim.Native.Nat.{ℕ}
use mathlib.Core.Bool.{true}
use mathlib.Core.List.{List, [], ◌∷◌}
use mathlib.Core.Path.{◌≡◌, ap, refl}
use native.Mathlib.Omega.{arith}
use lib.ListN.{get_or}
use Rattle.std.specs.Borrow.{MutBor}
use Rattle.number.specs.contracts as number-contracts
use Rattle.outcomes.specs.Outcome.{OneOutcome}

apart : ◌≡◌ {A = ℕ} 0 1 → ⊥
apart p = omega arith

pub an_open_answer_has_no_entry : OneOutcome number-contracts.capped_sum.ended (λ _ _. Unit {0}) (λ _ _ _ _. Unit {0}) → ⊥
an_open_answer_has_no_entry one = apart (ap (λ o. o.0) ((one tt (0, (0, tt))).1 (0, (tt, (tt, tt))) (1, (tt, (tt, tt))) tt tt))

pub an_open_slice_has_no_entry : OneOutcome number-contracts.write_u64.ended (λ _ _. Unit {0}) (λ _ _ r _. r ≡ true) → ⊥
an_open_slice_has_no_entry one =
    let lent : MutBor (List ℕ) = record { ref_ptr = (0, 0); ghost_name = 0; now = 0 ∷ [] } in
    apart (ap (λ o. get_or o.1.0 0 0) ((one ([], tt) (lent, (0, (0, tt)))).1 (true, (0 ∷ [], (tt, (tt, tt)))) (true, (1 ∷ [], (tt, (tt, tt)))) refl refl))

pub a_question_has_no_entry : OneOutcome number-contracts.capped_sum.ended (λ _ a. 0 ≡ a.0) (λ _ a r _. r ≡ a.0) → ⊥
a_question_has_no_entry one = apart (one tt (1, (0, tt))).0
