-- `freeze::same_key_at` meets its contract, since the two parts compare as keys do.
-- Assumes nothing.
use mathlib.Core.Path.{ap₂, ◌∙◌}
use Rattle.key.specs.Key.{same_key}
use Rattle.freeze.proofs.same_key_at.Goals as goal

pub returns : goal.returns
returns c = c.same_key.ensures ∙ ap₂ same_key c.part_at.ensures c.part_at-2.ensures
