-- A value that the document names, beside what the definitions give: the form of the one table of named values.
-- Assumes nothing.
use Rattle.std.specs.Prelude.{ℕ, ◌≡◌, List, [], ◌∷◌}

pub record NamedValue : Type 0 where
  pub gives : List ℕ
  pub named : List ℕ

-- each of the values is given as it is named
abbrev pub AsNamed : List NamedValue → Type 0
AsNamed [] = Unit {0}
AsNamed (v ∷ vs) = (v.gives ≡ v.named) × AsNamed vs
