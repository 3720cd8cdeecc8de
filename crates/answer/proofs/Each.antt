-- Laws of what each of some elements is.
-- Assumes nothing.
use mathlib.Core.List.{List, [], ◌∷◌}
use Rattle.answer.specs.Each.{Each}

-- what follows for one follows for each
pub each_so : {A : Type 0} {P Q : A → Type 0} → ((x : A) → P x → Q x) → (l : List A) → Each P l → Each Q l
each_so so [] ps = tt
each_so so (x ∷ l) ps = (so x ps.0, each_so so l ps.1)
