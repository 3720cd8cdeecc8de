-- `token::amount_of` meets its contract.
-- Assumes nothing.
use mathlib.Core.Path.{◌∙◌}
use Rattle.token.proofs.amount_of.Goals as goal

pub returns : goal.returns
returns c = c.read_u64.ensures ∙ rw c.record_payload.ensures
