-- `action::fields::mint_length` meets its contract: 32 for a token's type and else 0.
-- Assumes nothing.
use mathlib.Core.Path.{sym, ◌∙◌}
use Rattle.action.proofs.fields.mint_length.Goals as goal

pub returns-then-is_token : goal.returns-then-is_token
returns-then-is_token c = rw (sym c.is_token.ensures ∙ c.if-is_token.true)

pub returns-else-is_token : goal.returns-else-is_token
returns-else-is_token c = rw (sym c.is_token.ensures ∙ c.if-is_token.false)
