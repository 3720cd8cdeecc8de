-- Why an entry holds: equations to one right side make one of the two outcomes, and equal parts make equal tuples.
-- An entry is `both` of an equation of the answers and, parameter by parameter, of what was lent: `refl` where there is nothing to say, which is
-- an answer of nothing, a parameter that is not lent for writing, and all parameters after the last that is.
-- Assumes nothing.
use mathlib.Core.Path.{◌≡◌, ap₂}
pub use Rattle.answer.specs.Outcome.{one-outcome}

pub both {ℓ} : {A B : Type ℓ} {x y : A × B} → x.0 ≡ y.0 → x.1 ≡ y.1 → x ≡ y
both p q = ap₂ (λ a b. (a, b)) p q
