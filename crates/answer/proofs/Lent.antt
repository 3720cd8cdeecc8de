-- Laws of an answer whose value is written into what is lent: it holds the value, and a set one where there is none.
-- Assumes nothing.
use mathlib.Core.Path.{◌≡◌, refl, ap}
use mathlib.Core.Bool.{true, false}
use Prim.Native.Nat.{ℕ}
use native.Mathlib.Omega.{arith}
use Rattle.std.specs.Prelude.{OnOk}
use Rattle.std.specs.Result.{is_err, result_unwrap_or}
use Rattle.answer.specs.declared.Refusal.{Refusal}
use Rattle.answer.specs.Numbers.{answer_of}
use Rattle.answer.specs.Refusable.{Refusable, Ok, Err}

module _ {A : Type 0} where
  -- acceptance is the answer of what is given
  pub answer_given : (x : Refusable A) (a : A) → x ≡ Ok a → Ok tt ≡ answer_of x
  answer_given x a e = rw e

  -- what is lent after a refusal, and after acceptance
  pub lent_refused : (x : Refusable A) (none : A) → is_err (answer_of x) ≡ true → none ≡ result_unwrap_or x none
  lent_refused (Ok a) none h = absurd (let z : ◌≡◌ {A = ℕ} 0 1 = cc in omega arith)
  lent_refused (Err r) none h = refl

  pub lent_given : (x : Refusable A) (none a : A) → is_err (answer_of x) ≡ false → OnOk (answer_of x) (x ≡ Ok a) → a ≡ result_unwrap_or x none
  lent_given (Ok b) none a h on = cc
  lent_given (Err r) none a h on = absurd (let z : ◌≡◌ {A = ℕ} 0 1 = cc in omega arith)

  -- and what was answered, from the two
  pub refused_lent : (x : Refusable A) (r : Refusal) → Err r ≡ answer_of x → x ≡ Err r
  refused_lent (Ok a) r e = absurd (let z : ◌≡◌ {A = ℕ} 0 1 = cc in omega arith)
  refused_lent (Err q) r e = ap Err cc

  pub given_lent : (x : Refusable A) (none a : A) {u : Unit {0}} → Ok u ≡ answer_of x → a ≡ result_unwrap_or x none → x ≡ Ok a
  given_lent (Ok b) none a e h = ap Ok cc
  given_lent (Err r) none a e h = absurd (let z : ◌≡◌ {A = ℕ} 0 1 = cc in omega arith)
