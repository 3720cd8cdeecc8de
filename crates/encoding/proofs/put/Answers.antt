-- `encoding::put` meets its contract: a part that is copied whole is the run of stores at its place.
-- Assumes nothing.
use mathlib.Core.Path.{refl, sym, ◌∙◌}
use native.Mathlib.Omega.{arith}
use lib.ListN.{length}
use lib.Seq.{take_all, sets-eq}
use Rattle.std.proofs.lemmas.Slice.{put_mid-paste}
use Rattle.encoding.proofs.put.Goals as goal

pub returns-clause-after : goal.returns-clause-after
returns-clause-after c =
    let bytes = c.args.bytes.now in
    put_mid-paste c.args.at _ c.args.out.now _ bytes (length bytes) c.copy_from_slice.ensures.after (omega arith) refl
    ∙ rw (take_all (length bytes) bytes (omega arith)) (sym (sets-eq bytes c.args.out.now c.args.at (omega arith)))
