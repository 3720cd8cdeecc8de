-- Numbers: as little-endian bytes, their capped sum and their floored difference.
-- Assumes nothing.
use Rattle.std.specs.Prelude.{ℕ, zero, suc, ◌+◌, ◌-◌, ◌*◌, ◌/◌, ◌%◌, ◌^◌, ◌<◌, min, cond, List, [], ◌∷◌, ◌++◌, leb, length, get_or, take, drop}

-- each element of a row is a byte
abbrev pub Bytes : List ℕ → Type 0
Bytes s = (i : ℕ) → get_or s i 0 < 256

-- the number that a row of bytes stands for, the lowest byte first
unfoldable pub number : List ℕ → ℕ
number [] = 0
number (b ∷ bs) = b + 256 * number bs

-- the lowest `width` bytes of a number, the lowest first
unfoldable pub bytes_of : ℕ → ℕ → List ℕ
bytes_of zero n = []
bytes_of (suc width) n = n % 256 ∷ bytes_of width (n / 256)

-- the number of the `width` bytes at a place, or 0 where they are not all there
unfoldable pub number_at : ℕ → List ℕ → ℕ → ℕ
number_at width s at = cond (leb (at + width) (length s)) (number (take width (drop at s))) 0

-- `s` with the lowest `width` bytes of n at a place, or `s` itself where they do not all fit there
unfoldable pub with_number_at : ℕ → List ℕ → ℕ → ℕ → List ℕ
with_number_at width s at n = cond (leb (at + width) (length s)) (take at s ++ bytes_of width n ++ drop (at + width) s) s

-- the highest number of 64 bits, at which sums are capped
unfoldable pub highest : ℕ
highest = 2 ^ 64 - 1

-- a sum that stops at the highest number
unfoldable pub capped_sum : ℕ → ℕ → ℕ
capped_sum a b = min (a + b) highest

-- a difference that stops at 0
unfoldable pub floored_difference : ℕ → ℕ → ℕ
floored_difference a b = a - b
