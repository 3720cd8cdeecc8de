-- `compact::Entries::of` meets its contract: the entries are laid where sixteen zeros stood.
-- Assumes nothing.
use Prim.Native.Nat.{◌≤◌}
use mathlib.Core.Path.{refl}
use lib.ListN.{length}
use lib.Seq.{take_at}
use Rattle.compact.specs.Compact.{most_instructions}
use Rattle.compact.proofs.Laid.{zeros_alone, lies_first}
use Rattle.compact.proofs.Entries.of.Goals as goal

pub invariant_of-result : goal.invariant_of-result
unfolding most_instructions
invariant_of-result c =
    let few : length c.args.entries.now.items ≤ most_instructions = rw c.len-count.ensures.value at c.len-count.ensures.fits in
    rw (c.copy_from_slice.ensures.after, c.as_slice.ensures.value, c.len-count.ensures.value, zeros_alone c.default-list.result c.default-list.ensures)
    (lies_first c.args.entries.now.items few)

pub returns : goal.returns
returns c = rw (c.copy_from_slice.ensures.after, c.as_slice.ensures.value, c.len-count.ensures.value, take_at c.args.entries.now.items _ (length c.args.entries.now.items) refl) refl
