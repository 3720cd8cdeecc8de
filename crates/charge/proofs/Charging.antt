-- Laws of the loops over charges: what a rule's answer at the i-th says of all from i on, and settling one view after the other.
-- Assumes nothing.
use mathlib.Core.Path.{◌≡◌, refl, ap}
use mathlib.Core.Bool.{cond}
use mathlib.Core.Logic.{◌⊎◌, ⊎_elim}
use mathlib.Core.List.{List, [], ◌∷◌, ◌++◌, map}
use Prim.Native.Nat.{ℕ}
use native.Mathlib.Omega.{arith}
use lib.ListN.{length}
use Rattle.answer.specs.Numbers.{Answer}
use Rattle.answer.specs.declared.Refusal.{Refusal}
use Rattle.answer.specs.Refusable.{Ok, Err}
use Rattle.answer.proofs.Laws.{first_passes, first_refuses, no_rule}
use Rattle.action.specs.declared.ActionView.{ActionView}
use Rattle.action.specs.Action.{Action}
use Rattle.action.specs.Views.{action_at, written_at}
use Rattle.row.specs.Views.{actions_in}
use Rattle.change.specs.declared.Change.{Change}
use Rattle.change.specs.Changed.{changed}
use Rattle.limit.specs.Limit.{Charge, rule_answer, change_of, settled}
use Rattle.charge.specs.declared.Class.{Class}
use Rattle.charge.specs.Classes.{of_class, class_answer}
use Rattle.charge.specs.Views.{charges, charges_at, settled_at}

-- the charges of amounts that a function gives, whatever stands past them
pub charges-map : (f : Action → ℕ) (l : List Action) (ys : List ℕ) → charges l (map f l ++ ys) ≡ map (λ (a : Action). record { act = a; amount = f a }) l
unfolding charges
charges-map f [] ys = refl
charges-map f (a ∷ l) ys = ap (λ (cs : List Charge). record { act = a; amount = f a } ∷ cs) (charges-map f l ys)

-- ---- a class's rules

-- what a class answers to one charge
abbrev pub one_answer : Class → ℕ → Charge → Answer
one_answer class slot c = cond (of_class class c.act.kind) (rule_answer slot c) (Ok tt)

module _ (class : Class) (slot : ℕ) (s : List ℕ) where
  -- what is left of the views and of the amounts answers for the class
  abbrev pub left_answer : List ActionView → List ℕ → Answer
  left_answer views amounts = class_answer class slot (charges_at s views amounts)

  module _ {left others : List ActionView} {rest more : List ℕ} {v : ActionView} {x : ℕ} (first : left ≡ v ∷ others) (amount : rest ≡ x ∷ more)
      (a : Answer) (e : a ≡ one_answer class slot (record { act = action_at s v; amount = x })) where
    pub class_refused : (r : Refusal) → a ≡ Err r → left_answer left rest ≡ Err r
    unfolding class_answer charges_at charges actions_in
    class_refused r h = rw (first, amount, ← e, h) (first_refuses (Err r) _ refl)

    pub class_passed : (u : Unit {0}) → a ≡ Ok u → left_answer left rest ≡ left_answer others more
    unfolding class_answer charges_at charges actions_in
    class_passed u h = rw (first, amount, ← e, h) (first_passes (Ok tt) _ refl)

  pub class_end : (views : List ActionView) (amounts : List ℕ) → (length views ≡ 0) ⊎ (length amounts ≡ 0) → left_answer views amounts ≡ Ok tt
  unfolding class_answer charges_at charges actions_in
  class_end [] amounts h = no_rule
  class_end (v ∷ views) [] h = no_rule
  class_end (v ∷ views) (x ∷ amounts) h = absurd (⊎_elim (λ e. omega arith) (λ e. omega arith) h)

-- ---- settling

pub settle_end : (slot : ℕ) (views : List ActionView) (amounts s : List ℕ) → (length views ≡ 0) ⊎ (length amounts ≡ 0) → settled_at slot views amounts s ≡ s
unfolding settled_at
settle_end slot [] amounts s h = refl
settle_end slot (v ∷ views) [] s h = refl
settle_end slot (v ∷ views) (x ∷ amounts) s h = absurd (⊎_elim (λ e. omega arith) (λ e. omega arith) h)

pub settle_step : (slot : ℕ) {left others : List ActionView} {rest more : List ℕ} {v : ActionView} {x : ℕ} → left ≡ v ∷ others → rest ≡ x ∷ more
    → (s : List ℕ) (change : Change) → change ≡ change_of slot (record { act = action_at s v; amount = x })
    → settled_at slot left rest s ≡ settled_at slot others more (written_at s v (changed change (action_at s v)))
unfolding settled_at settled
settle_step slot first amount s change e = rw (first, amount, e)
