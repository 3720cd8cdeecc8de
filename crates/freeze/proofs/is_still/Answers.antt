-- `freeze::is_still` meets its contract.
-- Assumes nothing.
use Rattle.std.proofs.Common.{sym, ◌∙◌}
use Rattle.freeze.proofs.Freezing.{no_account_still, account_still}
use Rattle.freeze.proofs.is_still.Goals as goal

pub returns-then-is_token_account : goal.returns-then-is_token_account
returns-then-is_token_account c =
    rw (c.same_authorities.ensures, c.record_payload.ensures)
    (sym (account_still _ _ (sym c.is_token_account.ensures ∙ c.if-is_token_account.true)))

pub returns-else-is_token_account : goal.returns-else-is_token_account
returns-else-is_token_account c =
    let none = c.if-is_token_account.false in
    none ∙ sym (no_account_still _ _ (sym c.is_token_account.ensures ∙ none))
