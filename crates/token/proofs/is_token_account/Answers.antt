-- `token::is_token_account` meets its contract: each test is one of the definition's.
-- Assumes nothing.
use mathlib.Core.Path.{sym, ◌∙◌}
use Prim.Native.Nat.{◌<◌}
use native.Mathlib.Omega.{arith}
use lib.ListN.{length}
use Rattle.account.specs.Views.{record_at}
use Rattle.token.proofs.Counting.{too_short, spl_account, no_token_program, token_2022_account}
use Rattle.token.proofs.is_token_account.Goals as goal

pub returns-then-payload-lt-TOKEN_ACCOUNT_SIZE : goal.returns-then-payload-lt-TOKEN_ACCOUNT_SIZE
returns-then-payload-lt-TOKEN_ACCOUNT_SIZE c =
    let start = c.args in
    let r = record_at start.table.now start.view in
    let short : length r.payload < 165 = rw (← c.record_payload-payload.ensures) (omega arith) in
    sym (too_short r short)

pub returns-then-same_key : goal.returns-then-same_key
returns-then-same_key c =
    let owner = c.record_owner-owner in
    let payload = c.record_payload-payload in
    rw payload.ensures (sym (spl_account _ (rw owner.ensures at (sym c.same_key.ensures ∙ c.if-same_key.true))))

pub returns-then-not-same_key : goal.returns-then-not-same_key
returns-then-not-same_key c =
    let owner = c.record_owner-owner in
    sym
    (no_token_program _ (rw owner.ensures at (sym c.same_key.ensures ∙ c.if-same_key.false))
    (rw owner.ensures at (sym c.same_key-2.ensures ∙ c.if-not-same_key.true)))

pub returns : goal.returns
returns c =
    let owner = c.record_owner-owner in
    let payload = c.record_payload-payload in
    c.is_token_2022_account.ensures
    ∙ rw payload.ensures
    (sym
    (token_2022_account _ (rw owner.ensures at (sym c.same_key.ensures ∙ c.if-same_key.false))
    (rw owner.ensures at (sym c.same_key-2.ensures ∙ c.if-not-same_key.false))))
