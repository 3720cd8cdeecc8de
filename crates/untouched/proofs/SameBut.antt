-- Two rows of bytes that differ at most where a row of Bools says so, and how such rows are put together.
-- Assumes nothing.
use Prim.Native.Nat.{ℕ, zero, suc}
use mathlib.Core.Path.{◌≡◌, refl, sym, subst, ap}
use mathlib.Core.Bool.{Bool, true, false, false≢true}
use mathlib.Core.List.{List, [], ◌∷◌, ◌++◌}
use native.Mathlib.Omega.{arith}
use lib.ListN.{length, get_or, replicate}

pub data SameBut : List Bool → List ℕ → List ℕ → Type 0 where
  ended : SameBut [] [] []
  kept : {b : ℕ} {m : List Bool} {s t : List ℕ} → SameBut m s t → SameBut (false ∷ m) (b ∷ s) (b ∷ t)
  free : {b c : ℕ} {m : List Bool} {s t : List ℕ} → SameBut m s t → SameBut (true ∷ m) (b ∷ s) (c ∷ t)

pub joined : {m n : List Bool} {s t u v : List ℕ} → SameBut m s t → SameBut n u v → SameBut (m ++ n) (s ++ u) (t ++ v)
joined ended q = q
joined (kept p) q = kept (joined p q)
joined (free p) q = free (joined p q)

every_one_kept : (s : List ℕ) → SameBut (replicate (length s) false) s s
every_one_kept [] = ended
every_one_kept (b ∷ s) = kept (every_one_kept s)

pub all_kept : (n : ℕ) (s : List ℕ) → length s ≡ n → SameBut (replicate n false) s s
all_kept n s e = subst (λ (k : ℕ). SameBut (replicate k false) s s) e (every_one_kept s)

pub all_free : (n : ℕ) (s t : List ℕ) → length s ≡ n → length t ≡ n → SameBut (replicate n true) s t
all_free zero [] [] e f = ended
all_free (suc n) (b ∷ s) (c ∷ t) e f = free (all_free n s t (omega arith) (omega arith))
all_free zero (b ∷ s) t e f = absurd (omega arith)
all_free zero [] (c ∷ t) e f = absurd (omega arith)
all_free (suc n) [] t e f = absurd (omega arith)
all_free (suc n) (b ∷ s) [] e f = absurd (omega arith)

pub as_long : {m : List Bool} {s t : List ℕ} → SameBut m s t → length t ≡ length s
as_long ended = refl
as_long (kept p) = ap suc (as_long p)
as_long (free p) = ap suc (as_long p)

pub a_bool_for_each : {m : List Bool} {s t : List ℕ} → SameBut m s t → length m ≡ length s
a_bool_for_each ended = refl
a_bool_for_each (kept p) = ap suc (a_bool_for_each p)
a_bool_for_each (free p) = ap suc (a_bool_for_each p)

pub same_there : {m : List Bool} {s t : List ℕ} → SameBut m s t → (i : ℕ) → get_or m i false ≡ false → get_or t i 0 ≡ get_or s i 0
same_there ended i e = refl
same_there (kept p) zero e = refl
same_there (kept p) (suc i) e = same_there p i e
same_there (free p) zero e = absurd (false≢true (sym e))
same_there (free p) (suc i) e = same_there p i e
