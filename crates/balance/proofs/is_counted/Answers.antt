-- `balance::is_counted` meets its contract, test by test.
-- Assumes nothing.
use Rattle.std.proofs.Common.{sym, ◌∙◌}
use Rattle.token.proofs.Counting.{no_account_not_counted, account_counted}
use Rattle.balance.proofs.is_counted.Goals as goal

pub returns-then-is_token_account : goal.returns-then-is_token_account
returns-then-is_token_account c =
    sym (account_counted _ _ (sym c.is_token_account.ensures ∙ c.if-is_token_account.true) (sym c.is_held_by.ensures))

pub returns-else-is_token_account : goal.returns-else-is_token_account
returns-else-is_token_account c =
    let none = c.if-is_token_account.false in
    none ∙ sym (no_account_not_counted _ _ (sym c.is_token_account.ensures ∙ none))
