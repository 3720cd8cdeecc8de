-- `compact::parse` meets its contract. The loop's invariant: something is kept of each entry that is read so far, and reading on from `at`
-- gives what reading gives.
-- Assumes nothing.
use Prim.Native.Nat.{◌<◌}
use mathlib.Core.Path.{refl}
use native.Mathlib.Omega.{arith}
use lib.ListN.{length, get_or}
use Rattle.std.proofs.lemmas.Result.{err_from_is_err_and}
use Rattle.compact.specs.Compact.{most_instructions}
use Rattle.compact.proofs.Reading.{reading_empty, reading_too_many}
use Rattle.compact.proofs.Keeping.{kept_none, kept_all, kept_short, kept_one}
use Rattle.compact.proofs.parse.Goals as goal

pub returns-in_default : goal.returns-in_default
returns-in_default g c = reading_empty c.args.bytes.now c.in_default.len_below

pub returns-then-count-gt-MAX_COMPACT_INSTRUCTIONS : goal.returns-then-count-gt-MAX_COMPACT_INSTRUCTIONS
unfolding most_instructions
returns-then-count-gt-MAX_COMPACT_INSTRUCTIONS g c = reading_too_many c.args.bytes.now (omega arith) (omega arith)

pub loop-init : goal.loop-init
unfolding most_instructions
loop-init g c = rw c.new-list.ensures (refl, kept_none _ _ (omega arith) (omega arith))

pub returns-in_err-entry : goal.returns-in_err-entry
returns-in_err-entry g c =
    let p = err_from_is_err_and c.from_residual.result c.from_residual.ensures.1 in
    let more : length c.loop.list.items < get_or c.args.bytes.now 0 0 = omega (arith, c.loop.invariant.0) in
    rw (p.1, p.2) (kept_short _ c.loop.invariant.1 more c.head_at.result c.head_at.ensures c.in_err-entry.field-0.0 c.in_err-entry.was)

pub loop-preserved : goal.loop-preserved
loop-preserved g c =
    let more : length c.loop.list.items < get_or c.args.bytes.now 0 0 = omega (arith, c.loop.invariant.0) in (
      omega (arith, c.push.ensures.len, c.loop.invariant.0),
      rw c.push.ensures.items
          (kept_one _ c.loop.invariant.1 more c.head_at.result c.head_at.ensures (c.in_ok-entry.entry, c.in_ok-entry.next) c.keep.result c.in_ok-entry.was c.keep.ensures),
    )

pub returns : goal.returns
returns g c = kept_all _ c.loop.invariant.1 (omega (arith, c.loop.invariant.0))
