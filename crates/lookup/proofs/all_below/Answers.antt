-- `lookup::all_below` meets its contract: it asks index by index, as the definition does.
-- Assumes nothing.
use mathlib.Core.Path.{◌≡◌, refl}
use mathlib.Core.Bool.{true, false}
use Prim.Native.Nat.{ℕ}
use borrow.Author.Tests.{tests}
use lib.Dec.{ltb}
use Rattle.std.proofs.Common.{rules}
use Rattle.std.proofs.lemmas.Iterator.{cases_from_all, YieldsList-from_slice}
use Rattle.answer.proofs.Chains.{all_down}
use Rattle.lookup.specs.Indexes.{all_below}
use Rattle.lookup.proofs.all_below.Goals as goal

pub returns : goal.returns
unfolding all_below
returns c =
    let count = c.args.count in
    all_down (λ (i : ℕ). ltb i count) (all_below count) refl (λ i l. refl) c.args.indexes.now _
    (cases_from_all _ _ _ (λ i. ltb i count ≡ true) (λ i. ltb i count ≡ false) c.all.ensures.ran (YieldsList-from_slice c.args.indexes.now cc)
    (λ x q k. search (rules, tests))
    (λ x q k. search (rules, tests)))
