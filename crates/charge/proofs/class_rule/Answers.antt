-- `charge::class_rule` meets its contract.
-- Assumes nothing.
use mathlib.Core.Path.{sym, ◌∙◌}
use Rattle.charge.proofs.class_rule.Goals as goal

pub returns-then-of_class : goal.returns-then-of_class
returns-then-of_class c = rw (sym c.of_class.ensures ∙ c.if-of_class.true) c.rule_answer.ensures

pub returns : goal.returns
returns c = rw (sym c.of_class.ensures ∙ c.if-of_class.false)
