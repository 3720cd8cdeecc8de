-- Laws of a range within a source, as the code tests it.
-- Assumes nothing.
use Prim.Native.Nat.{ℕ, ◌+◌, ◌-◌, ◌<◌, ◌≤◌}
use mathlib.Core.Path.{◌≡◌, refl, sym}
use mathlib.Core.Bool.{Bool, true, false}
use mathlib.Core.List.{List}
use native.Mathlib.Omega.{arith}
use borrow.Author.Tests.{le-leb, lt-leb, leb-true, leb-false}
use lib.Dec.{leb}
use lib.ListN.{length}
use Rattle.compact.specs.declared.Range.{Range}
use Rattle.compact.specs.Entries.{within}

pub within-left : (source : List ℕ) (r : Range) → r.start ≤ length source → leb r.len (length source - r.start) ≡ within source r
unfolding within
within-left source r h = go (leb r.len (length source - r.start)) refl
  where
    go : (t : Bool) → leb r.len (length source - r.start) ≡ t → t ≡ leb (r.start + r.len) (length source)
    go true e = sym (le-leb (r.start + r.len) (length source) (omega (arith, leb-true r.len (length source - r.start) e)))
    go false e = sym (lt-leb (r.start + r.len) (length source) (omega (arith, leb-false r.len (length source - r.start) e)))

pub within_past : (source : List ℕ) (r : Range) → length source < r.start → within source r ≡ false
unfolding within
within_past source r h = lt-leb (r.start + r.len) (length source) (omega arith)
