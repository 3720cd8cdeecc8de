-- Laws of what gives a value or refuses: a choice whose other side is a refusal, a value changed, and a value changed twice.
-- Assumes nothing.
use mathlib.Core.Path.{◌≡◌, refl, sym, ap}
use mathlib.Core.Bool.{Bool, true, false, cond}
use mathlib.Core.List.{List, [], ◌∷◌, ◌++◌, append_assoc}
use Prim.Native.Nat.{ℕ}
use native.Mathlib.Omega.{arith}
use Rattle.answer.specs.declared.Refusal.{Refusal}
use Rattle.answer.specs.Refusable.{Refusable, Ok, Err, change}

module _ {A : Type 0} where
  -- what a choice gives, its first side gives
  pub chosen_given : (t : Bool) (x : Refusable A) (q : Refusal) (a : A) → cond t x (Err q) ≡ Ok a → (t ≡ true) × (x ≡ Ok a)
  chosen_given true x q a e = (refl, e)
  chosen_given false x q a e = absurd (let z : ◌≡◌ {A = ℕ} 0 1 = cc in omega arith)

  -- a choice refuses as one of its sides does
  pub chosen_refused : (t : Bool) (x : Refusable A) (q r : Refusal) → (x ≡ Err r → r ≡ q) → cond t x (Err q) ≡ Err r → r ≡ q
  chosen_refused true x q r first e = first e
  chosen_refused false x q r first e = cc

  -- what is given is no refusal
  pub given_not_refused : (a : A) (q r : Refusal) → Ok a ≡ Err r → r ≡ q
  given_not_refused a q r e = absurd (let z : ◌≡◌ {A = ℕ} 0 1 = cc in omega arith)

  -- a row with one more in front
  pub one_more_given : (x : Refusable (List A)) (a : A) (l : List A) → change (λ (m : List A). a ∷ m) x ≡ Ok l
      → (m : List A) × (x ≡ Ok m) × (l ≡ a ∷ m)
  one_more_given (Ok m) a l e = (m, refl, cc)
  one_more_given (Err r) a l e = absurd (let z : ◌≡◌ {A = ℕ} 0 1 = cc in omega arith)

  pub one_more_refused : (x : Refusable (List A)) (a : A) (r : Refusal) → change (λ (m : List A). a ∷ m) x ≡ Err r → x ≡ Err r
  one_more_refused (Ok m) a r e = absurd (let z : ◌≡◌ {A = ℕ} 0 1 = cc in omega arith)
  one_more_refused (Err q) a r e = cc

  -- nothing in front, and one more in front of what stands in front
  pub none_in_front : (x : Refusable (List A)) → change (λ (l : List A). [] ++ l) x ≡ x
  none_in_front (Ok l) = refl
  none_in_front (Err r) = refl

  pub more_in_front : (done : List A) (a : A) (x : Refusable (List A))
      → change (λ (l : List A). done ++ l) (change (λ (l : List A). a ∷ l) x) ≡ change (λ (l : List A). (done ++ (a ∷ [])) ++ l) x
  more_in_front done a (Ok l) = ap Ok (sym (append_assoc done (a ∷ []) l))
  more_in_front done a (Err r) = refl
