-- `token::is_held_by` meets its contract: data of fewer than 64 bytes has no whole key at 32.
-- Assumes nothing.
use mathlib.Core.Path.{sym}
use Prim.Native.Nat.{◌<◌}
use native.Mathlib.Omega.{arith}
use lib.ListN.{length}
use Rattle.account.specs.Views.{record_at}
use Rattle.token.proofs.Counting.{no_holder}
use Rattle.token.proofs.is_held_by.Goals as goal

pub returns-then-payload-lt-TOKEN_AMOUNT_OFFSET : goal.returns-then-payload-lt-TOKEN_AMOUNT_OFFSET
returns-then-payload-lt-TOKEN_AMOUNT_OFFSET c =
    let start = c.args in
    let r = record_at start.table.now start.view in
    let short : length r.payload < 64 = rw (← c.record_payload-payload.ensures) (omega arith) in
    sym (no_holder r start.vault.now short)

pub returns : goal.returns
returns c = rw (← c.record_payload-payload.ensures) c.same_key.ensures
