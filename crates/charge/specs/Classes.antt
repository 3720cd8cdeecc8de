-- The two classes of rules, SOL's and the tokens', and what the rules of one answer.
-- Assumes nothing.
use Rattle.std.specs.Prelude.{ℕ, Bool, cond, ◌||◌, List, map, eqb}
use Rattle.answer.specs.Numbers.{Answer, first_refusal}
use Rattle.answer.specs.Refusable.{Ok}
use Rattle.action.specs.Action.{sol_limit, sol_recurring_limit, sol_max_per_tx}
use Rattle.action.specs.Fields.{is_token}
use Rattle.limit.specs.Limit.{Charge, rule_answer}
use Rattle.charge.specs.declared.Class.{Class}
use Rattle.charge.specs.declared.Class.TheVariants.{Sol, Tokens}

-- the SOL types
unfoldable pub is_sol : ℕ → Bool
is_sol kind = eqb kind sol_limit || eqb kind sol_recurring_limit || eqb kind sol_max_per_tx

-- whether a type is of a class
unfoldable pub of_class : Class → ℕ → Bool
unfolding is_sol
of_class Sol kind = is_sol kind
of_class Tokens kind = is_token kind

-- what the rules of one class answer, in region order
unfoldable pub class_answer : Class → ℕ → List Charge → Answer
unfolding rule_answer of_class
class_answer class slot charges =
    first_refusal (map (λ (c : Charge). cond (of_class class c.act.kind) (rule_answer slot c) (Ok tt)) charges)
