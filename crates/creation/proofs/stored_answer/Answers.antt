-- `creation::stored_answer` meets its contract: cutting decides first, then the form, and each refuses alike.
-- Assumes nothing.
use mathlib.Core.Path.{sym, ◌∙◌}
use Rattle.creation.proofs.Forms.{answer_not_cut, answer_by_form}
use Rattle.creation.proofs.stored_answer.Goals as goal

pub returns-in_default : goal.returns-in_default
returns-in_default c = rw c.in_default.is (sym (answer_not_cut _ _))

pub returns : goal.returns
returns c = c.form.ensures ∙ rw c.in-Ok.is (answer_by_form _)
