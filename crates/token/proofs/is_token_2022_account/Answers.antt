-- `token::is_token_2022_account` meets its contract: what is longer than an account has a byte 165 to ask.
-- Assumes nothing.
use mathlib.Core.Path.{sym}
use native.Mathlib.Omega.{arith}
use Rattle.token.proofs.Counting.{at_most_165, of_355, longer}
use Rattle.token.proofs.is_token_2022_account.Goals as goal

pub returns-then-size-le-TOKEN_ACCOUNT_SIZE : goal.returns-then-size-le-TOKEN_ACCOUNT_SIZE
returns-then-size-le-TOKEN_ACCOUNT_SIZE c = sym (at_most_165 c.args.payload.now (omega arith))

pub returns-then-size-eq-MULTISIG_SIZE : goal.returns-then-size-eq-MULTISIG_SIZE
returns-then-size-eq-MULTISIG_SIZE c = sym (of_355 c.args.payload.now (omega arith) (omega arith))

pub returns : goal.returns
returns c = sym (longer c.args.payload.now (omega arith) (λ e. omega arith))
