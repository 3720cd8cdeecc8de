-- Laws of parts.
-- Assumes nothing.
use mathlib.Core.Path.{◌≡◌, sym, ◌∙◌}
use mathlib.Core.List.{List, [], ◌++◌}
use Prim.Native.Nat.{ℕ, ◌+◌, ◌<◌, ◌≤◌}
use native.Mathlib.Omega.{arith}
use borrow.Author.Tests.{le-leb, lt-leb}
use lib.ListN.{length, take, drop, length-append, length-drop}
use lib.Seq.{length-take-le, take-append-le, drop-append-le, take_at, drop_at}
use Rattle.part.specs.Part.{part_at}

pub part_there : (s : List ℕ) (at len : ℕ) → at + len ≤ length s → part_at s at len ≡ take len (drop at s)
unfolding part_at
part_there s at len h = rw (le-leb _ _ h)

pub part_past : (s : List ℕ) (at len : ℕ) → length s < at + len → part_at s at len ≡ []
unfolding part_at
part_past s at len h = rw (lt-leb _ _ h)

-- a part that is there is as long as was asked
pub length_part_there : (s : List ℕ) (at len : ℕ) → at + len ≤ length s → length (part_at s at len) ≡ len
length_part_there s at len h =
    let fits : len ≤ length (drop at s) = simp length-drop (omega arith) in
    rw (part_there s at len h) (length-take-le len (drop at s) fits)

-- a part that is there lies before whatever follows the bytes
pub part_before_more : (s more : List ℕ) (at len : ℕ) → at + len ≤ length s → part_at (s ++ more) at len ≡ part_at s at len
part_before_more s more at len h =
    let longer : at + len ≤ length (s ++ more) = simp length-append (omega arith) in
    let inside : at ≤ length s = omega arith in
    let fits : len ≤ length (drop at s) = simp length-drop (omega arith) in
    part_there (s ++ more) at len longer ∙ rw (drop-append-le, take-append-le) (sym (part_there s at len h))

-- what stands between other bytes is the part at its place
pub part_between : (before xs after : List ℕ) (at len : ℕ) → length before ≡ at → length xs ≡ len → part_at (before ++ (xs ++ after)) at len ≡ xs
part_between before xs after at len place long =
    let there : at + len ≤ length (before ++ (xs ++ after)) = simp length-append (omega arith) in
    part_there _ at len there ∙ rw (drop_at before (xs ++ after) at place, take_at xs after len long)
