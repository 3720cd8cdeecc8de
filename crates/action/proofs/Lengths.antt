-- Laws of the data lengths: what a test of each listed type says of every code.
-- Assumes nothing.
use mathlib.Core.Path.{◌≡◌, refl, sym, subst}
use mathlib.Core.Bool.{Bool, true, false, cond, ◌&&◌, and-eq-true_iff}
use mathlib.Core.List.{List, [], ◌∷◌}
use mathlib.Core.Logic.{⊎_elim}
use Prim.Native.Nat.{ℕ, ◌<◌, ◌≤◌}
use native.Mathlib.Nat.{eq-zero-or-pos}
use native.Mathlib.Omega.{arith}
use borrow.Author.Tests.{eqb-true, leb-true, ltb-true}
use lib.Dec.{eqb, leb, ltb}
use Rattle.action.specs.Action.{Typed, types, size_among, data_length}

-- whether all of some types pass a test of their code and length
abbrev pub all_pass : (ℕ → ℕ → Bool) → List Typed → Bool
all_pass test [] = true
all_pass test (t ∷ ts) = test t.code t.size && all_pass test ts

-- what all of some types pass, a code among theirs passes
passes_among : (test : ℕ → ℕ → Bool) (code : ℕ) (ts : List Typed) → all_pass test ts ≡ true → 0 < size_among code ts
    → test code (size_among code ts) ≡ true
unfolding size_among
passes_among test code [] e some = absurd (let z : ◌≡◌ {A = ℕ} 0 1 = omega arith in omega arith)
passes_among test code (t ∷ ts) e some =
    let (here, after) = (and-eq-true_iff (test t.code t.size) _).0 e in
    go here (passes_among test code ts after) (eqb code t.code) refl some
  where
    go : test t.code t.size ≡ true → (0 < size_among code ts → test code (size_among code ts) ≡ true) → (is : Bool) → eqb code t.code ≡ is
        → 0 < cond is t.size (size_among code ts) → test code (cond is t.size (size_among code ts)) ≡ true
    go here after true same h = subst (λ (c : ℕ). test c t.size ≡ true) (sym (eqb-true code t.code same)) here
    go here after false other h = after h

-- what all types pass, a known code passes
pub listed_passes : (test : ℕ → ℕ → Bool) → all_pass test types ≡ true → (code : ℕ) → 0 < data_length code → test code (data_length code) ≡ true
unfolding data_length
listed_passes test e code some = passes_among test code types e some

-- a known code is in the table
pub known_code : (code : ℕ) → 0 < data_length code → code < 12
known_code code some = ltb-true _ _ (listed_passes (λ (c size : ℕ). ltb c 12) refl code some)

-- a code past the table is unknown
pub unknown_code : (code : ℕ) → 12 ≤ code → data_length code ≡ 0
unknown_code code h = ⊎_elim (λ none. none) (λ some. absurd (omega (arith, known_code code some))) (eq-zero-or-pos (data_length code))

pub data_at_most : (code : ℕ) → data_length code ≤ 64
data_at_most code =
    ⊎_elim (λ none. omega arith) (λ some. leb-true _ _ (listed_passes (λ (c size : ℕ). leb size 64) refl code some)) (eq-zero-or-pos (data_length code))
