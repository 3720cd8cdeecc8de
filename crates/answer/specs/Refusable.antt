-- What gives a value or refuses.
-- Assumes nothing.
pub use Rattle.std.specs.Prelude.{Result, Ok, Err}
use Rattle.answer.specs.declared.Refusal.{Refusal}

abbrev pub Refusable : Type 0 → Type 0
Refusable A = Result A Refusal

-- a value, if given, changed by f
abbrev pub change : {A B : Type 0} → (A → B) → Refusable A → Refusable B
change f (Ok a) = Ok (f a)
change f (Err r) = Err r
