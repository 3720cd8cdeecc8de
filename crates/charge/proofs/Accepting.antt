-- What the accepted rules say: no charge of a type that counts what is taken breaks its rule.
-- Assumes nothing.
use mathlib.Core.Path.{◌≡◌, refl, sym, ap, subst, ◌∙◌}
use mathlib.Core.Bool.{Bool, true, false, cond, ◌||◌}
use mathlib.Core.List.{List, [], ◌∷◌, map}
use Prim.Native.Nat.{ℕ}
use native.Mathlib.Omega.{arith}
use borrow.Author.Tests.{eqb-true}
use lib.Dec.{eqb}
use Rattle.answer.specs.Each.{Each}
use Rattle.answer.specs.Numbers.{accepts}
use Rattle.answer.specs.Refusable.{Ok}
use Rattle.answer.proofs.Laws.{EachAccepts, each_accepts}
use Rattle.action.specs.Fields.{is_token, is_recurring}
use Rattle.limit.specs.Limit.{Charge, refusal_of, rule_answer, breaks, is_limit}
use Rattle.limit.proofs.Rules.{rule_broken}
use Rattle.charge.specs.declared.Class.{Class}
use Rattle.charge.specs.declared.Class.TheVariants.{Sol, Tokens}
use Rattle.charge.specs.Classes.{is_sol, of_class, class_answer}
use Rattle.charge.proofs.Charging.{one_answer}

-- whether a type keeps count of what is taken
abbrev pub counts : ℕ → Bool
counts kind = is_limit kind || is_recurring kind

-- each charge of a type that counts breaks no rule
abbrev pub EachKept : ℕ → List Charge → Type 0
EachKept slot cs = Each (λ (c : Charge). counts c.act.kind ≡ true → breaks slot c.amount c.act ≡ false) cs

-- one of the types that count: each is in one of the two classes, and its rule has a refusal
one_of : (kind : ℕ) → counts kind ≡ true → (class : Class) × (of_class class kind ≡ true) × (accepts (refusal_of kind) ≡ false)
unfolding is_limit is_recurring of_class is_sol is_token refusal_of
one_of kind e = go (eqb kind 1) (eqb kind 4) (eqb kind 2) (eqb kind 5) refl refl refl refl e
  where
    at_code : (n : ℕ) → kind ≡ n → (class : Class) × (of_class class n ≡ true) × (accepts (refusal_of n) ≡ false) → (class : Class) × (of_class class kind ≡ true) × (accepts (refusal_of kind) ≡ false)
    at_code n is h = subst (λ (k : ℕ). (class : Class) × (of_class class k ≡ true) × (accepts (refusal_of k) ≡ false)) (sym is) h

    go : (a b c d : Bool) → eqb kind 1 ≡ a → eqb kind 4 ≡ b → eqb kind 2 ≡ c → eqb kind 5 ≡ d → (a || b || (c || d)) ≡ true
        → (class : Class) × (of_class class kind ≡ true) × (accepts (refusal_of kind) ≡ false)
    go true b c d p q r s h = at_code 1 (eqb-true kind 1 p) (Sol, refl, refl)
    go false true c d p q r s h = at_code 4 (eqb-true kind 4 q) (Tokens, refl, refl)
    go false false true d p q r s h = at_code 2 (eqb-true kind 2 r) (Sol, refl, refl)
    go false false false true p q r s h = at_code 5 (eqb-true kind 5 s) (Tokens, refl, refl)
    go false false false false p q r s h = absurd (let n : ◌≡◌ {A = ℕ} 0 1 = cc in omega arith)

kept_by : (slot : ℕ) (c : Charge) (class : Class) → of_class class c.act.kind ≡ true → accepts (refusal_of c.act.kind) ≡ false
    → accepts (one_answer class slot c) ≡ true → breaks slot c.amount c.act ≡ false
kept_by slot c class is some h = go (breaks slot c.amount c.act) refl
  where
    rule : accepts (rule_answer slot c) ≡ true
    rule = subst (λ (b : Bool). accepts (cond b (rule_answer slot c) (Ok tt)) ≡ true) is h

    go : (b : Bool) → breaks slot c.amount c.act ≡ b → breaks slot c.amount c.act ≡ false
    go false e = e
    go true e =
        absurd (let z : ◌≡◌ {A = Bool} true false = sym rule ∙ ap accepts (rule_broken slot c e) ∙ some in let n : ◌≡◌ {A = ℕ} 0 1 = cc in omega arith)

-- where both classes accept, no charge breaks its rule
pub each_kept : (slot : ℕ) (cs : List Charge) → accepts (class_answer Sol slot cs) ≡ true → accepts (class_answer Tokens slot cs) ≡ true → EachKept slot cs
unfolding class_answer
each_kept slot cs sol token = go cs (each_accepts _ sol) (each_accepts _ token)
  where
    go : (ds : List Charge) → EachAccepts (map (one_answer Sol slot) ds) → EachAccepts (map (one_answer Tokens slot) ds) → EachKept slot ds
    go [] p q = tt
    go (c ∷ ds) p q = (λ is. let (class, is-of, some) = one_of c.act.kind is in kept_by slot c class is-of some (either class p.0 q.0), go ds p.1 q.1)
      where
        either : (class : Class) → accepts (one_answer Sol slot c) ≡ true → accepts (one_answer Tokens slot c) ≡ true → accepts (one_answer class slot c) ≡ true
        either Sol x y = x
        either Tokens x y = y
