-- `run::feed_opening` meets its contract: what is at hand after the piece is heard.
-- Assumes nothing.
use mathlib.Core.Path.{◌∙◌}
use Rattle.run.specs.declared.Stage.TheVariants.{Opening}
use Rattle.run.proofs.Gathering.{handed, heard_opening, fed_opening_lem}
use Rattle.run.proofs.feed_opening.Goals as goal

pub returns : goal.returns
returns c =
    let by = handed Opening _ _ _ _ _ _ c.min-got.ensures c.gather-used.ensures.value c.gather-used.ensures.memory_after in
    record { value = c.hears.ensures ∙ heard_opening _ _ _ _ _ by.long c.hear_opening-heard.ensures ∙ fed_opening_lem _ _ by; opening_after = by.memory_is }
