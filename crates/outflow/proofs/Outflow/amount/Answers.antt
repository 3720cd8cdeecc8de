-- `outflow::Outflow::amount` meets its contract: only a token action has a mint, and the decrease of a listed one is known.
-- Assumes nothing.
use Rattle.std.proofs.Common.{sym, ap, ◌∙◌}
use Rattle.outflow.specs.Outflow.{decrease_of}
use Rattle.outflow.proofs.Amounts.{token_amount, other_amount}
use Rattle.outflow.proofs.Outflow.amount.Goals as goal

pub returns-then-not-is_token : goal.returns-then-not-is_token
returns-then-not-is_token c = c.sol_amount.ensures ∙ sym (other_amount _ _ _ _ _ _ _ (sym c.is_token.ensures ∙ c.if-not-is_token.true))

pub returns-in-Some : goal.returns-in-Some
returns-in-Some c =
    let known = rw c.in-Some.is at c.requires in
    known ∙ sym (token_amount _ _ _ _ _ _ _ (sym c.is_token.ensures ∙ c.if-not-is_token.false))

pub returns-in-None : goal.returns-in-None
returns-in-None c =
    c.token_decrease.ensures
    ∙ ap (decrease_of _ _ _) c.key_of.ensures
    ∙ sym (token_amount _ _ _ _ _ _ _ (sym c.is_token.ensures ∙ c.if-not-is_token.false))
