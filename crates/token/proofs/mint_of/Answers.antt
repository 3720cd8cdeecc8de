-- `token::mint_of` meets its contract: the first 32 bytes of the data, or all of it where it is shorter.
-- Assumes nothing.
use mathlib.Core.Path.{sym}
use native.Mathlib.Omega.{arith}
use lib.Seq.{take_all, length-take-le}
use Rattle.token.proofs.mint_of.Goals as goal

pub returns-then-payload-lt-TOKEN_OWNER_OFFSET : goal.returns-then-payload-lt-TOKEN_OWNER_OFFSET
returns-then-payload-lt-TOKEN_OWNER_OFFSET c = rw (← c.record_payload-payload.ensures) (sym (take_all 32 _ (omega arith)))

pub slice_bounds-result-end : goal.slice_bounds-result-end
slice_bounds-result-end c =
    let payload = c.record_payload-payload.result.now in
    sym (length-take-le 32 payload (omega arith))

pub returns : goal.returns
returns c = rw c.record_payload-payload.ensures
