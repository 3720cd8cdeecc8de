-- `lookup::lookup` meets its contract: the places of a cut table name its records.
-- Assumes nothing.
use mathlib.Core.Path.{sym, ◌∙◌}
use Rattle.lookup.proofs.Lookups.{key_of_table, key_of_none}
use Rattle.lookup.proofs.lookup.Goals as goal

pub returns-in_default : goal.returns-in_default
returns-in_default c = sym (key_of_none _ _ _ (sym c.cut_places.ensures ∙ c.in_default.is))

pub returns : goal.returns
returns c = c.key_at.ensures ∙ rw c.as_slice.ensures.value (key_of_table _ _ c.args.index (sym c.cut_places.ensures ∙ c.in-Ok.is))
