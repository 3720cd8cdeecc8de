-- `frame::parts_length` meets its contract: it adds the three lengths, and three numbers of 32 bits fit 64.
-- Assumes nothing.
use Prim.Native.Nat.{ℕ, ◌<◌}
use mathlib.Core.List.{List}
use native.Mathlib.Omega.{arith}
use Rattle.number.specs.Number.{Bytes}
use Rattle.number.proofs.Laws.{read_below}
use Rattle.frame.specs.declared.CallView.{CallView}
use Rattle.frame.specs.Frame.{parts_length, whole_call}
use Rattle.frame.proofs.parts_length.Goals as goal

record Short (call : CallView) : Type 0 where
  before : call.before.len < 4294967296
  after : call.after.len < 4294967296
  instructions : call.instructions.len < 4294967296

read_short : (s : List ℕ) → Bytes s → Short (whole_call s)
unfolding whole_call
read_short s h = record { before = read_below 4 s 32 h; after = read_below 4 s 36 h; instructions = read_below 4 s 40 h }

pub overflow_add-result : goal.overflow_add-result
overflow_add-result c = rw c.whole_call-call.ensures (let short = read_short c.args.bytes.now (λ i. (c.type_inv.bytes i).fits) in omega arith)

pub overflow_add-result-2 : goal.overflow_add-result-2
overflow_add-result-2 c = rw c.whole_call-call.ensures (let short = read_short c.args.bytes.now (λ i. (c.type_inv.bytes i).fits) in omega arith)

pub returns : goal.returns
unfolding parts_length whole_call
returns c = rw c.whole_call-call.ensures
