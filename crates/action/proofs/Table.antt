-- A table's rule, proved at all of its entries by one test that computes.
-- Assumes nothing.
use mathlib.Core.Path.{◌≡◌}
use mathlib.Core.Bool.{Bool, true, ◌&&◌, and-eq-true_iff}
use mathlib.Core.List.{List, [], ◌∷◌}
use Prim.Native.Nat.{ℕ, zero, suc, ◌+◌, ◌<◌}
use native.Mathlib.Nat.{add-zero, zero-add, add-suc, suc-add, le_of_suc-le-suc, not-suc-le-zero}
use borrow.Author.Tests.{eqb-true}
use lib.Dec.{eqb}
use lib.ListN.{length, get_or}

-- each entry, counted from `from`, is what the rule gives at its place
abbrev pub agrees : (ℕ → ℕ) → ℕ → List ℕ → Bool
agrees rule from [] = true
agrees rule from (x ∷ xs) = eqb x (rule from) && agrees rule (suc from) xs

entry_from : (rule : ℕ → ℕ) (from : ℕ) (xs : List ℕ) → agrees rule from xs ≡ true → (k : ℕ) → k < length xs → get_or xs k 0 ≡ rule (from + k)
entry_from rule from [] e k h = absurd (not-suc-le-zero h)
entry_from rule from (x ∷ xs) e zero h = rw (add-zero from) (eqb-true x (rule from) ((and-eq-true_iff _ _).0 e).0)
entry_from rule from (x ∷ xs) e (suc k) h =
    rw (add-suc from k, ← suc-add from k) (entry_from rule (suc from) xs ((and-eq-true_iff (eqb x (rule from)) _).0 e).1 k (le_of_suc-le-suc h))

pub entry_is : (rule : ℕ → ℕ) (xs : List ℕ) → agrees rule 0 xs ≡ true → (k : ℕ) → k < length xs → get_or xs k 0 ≡ rule k
entry_is rule xs e k h = rw zero-add at (entry_from rule 0 xs e k h)
