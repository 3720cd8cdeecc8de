-- `action::fields::key_of` meets its contract: the first 32 bytes of the data, or all of it where it is shorter.
-- Assumes nothing.
use mathlib.Core.Path.{sym}
use native.Mathlib.Omega.{arith}
use lib.Seq.{take_all, length-take-le}
use Rattle.action.specs.Fields.{key_of}
use Rattle.action.specs.Views.{action_at}
use Rattle.action.proofs.fields.key_of.Goals as goal

pub returns-then-payload-lt-KEY_LENGTH : goal.returns-then-payload-lt-KEY_LENGTH
unfolding key_of action_at
returns-then-payload-lt-KEY_LENGTH c = rw (← c.data_of-payload.ensures) (sym (take_all 32 _ (omega arith)))

pub slice_bounds-result-end : goal.slice_bounds-result-end
slice_bounds-result-end c =
    let payload = c.data_of-payload.result.now in
    sym (length-take-le 32 payload (omega arith))

pub returns : goal.returns
unfolding key_of action_at
returns c = rw c.data_of-payload.ensures
