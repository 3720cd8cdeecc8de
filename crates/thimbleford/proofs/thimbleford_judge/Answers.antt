-- `thimbleford::thimbleford_judge` meets its contract: it answers with the number of what it calls.
-- Assumes nothing.
use mathlib.Core.Path.{ap, ◌∙◌}
use Rattle.answer.specs.Numbers.{number_of}
use Rattle.thimbleford.proofs.thimbleford_judge.Goals as goal

pub returns : goal.returns
returns c =
    let judged = c.judge in
    (c.number_of.ensures ∙ ap number_of judged.ensures.0, judged.ensures.1)
