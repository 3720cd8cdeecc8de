-- `thimbleford::thimbleford_create` meets its contract: it answers with the number of what it calls.
-- Assumes nothing.
use mathlib.Core.Path.{ap, ◌∙◌}
use Rattle.answer.specs.Numbers.{number_of}
use Rattle.thimbleford.proofs.thimbleford_create.Goals as goal

pub returns : goal.returns
returns c = c.number_of.ensures ∙ ap number_of c.validate_actions_buffer.ensures
