-- A part of some bytes, by its place and its length.
-- Assumes nothing.
use Rattle.std.specs.Prelude.{ℕ, ◌+◌, cond, List, [], leb, length, take, drop}

-- the `len` bytes at a place, nothing where they are not all there
unfoldable pub part_at : List ℕ → ℕ → ℕ → List ℕ
part_at s at len = cond (leb (at + len) (length s)) (take len (drop at s)) []
