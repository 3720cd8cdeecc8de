-- Laws of lists that the code's places need: parts at a place.
-- Assumes nothing.
use Prim.Native.Nat.{ℕ, suc, ◌+◌, ◌<◌, ◌≤◌}
use mathlib.Core.Path.{◌≡◌}
use mathlib.Core.List.{List, ◌∷◌, ◌++◌}
use native.Mathlib.Numerals.{add-one, add-two}
use native.Mathlib.Omega.{arith}
use lib.ListN.{length, get_or, take, drop, length-drop, take-append-drop}
use lib.Seq.{length-take-le, drop-cons, drop-drop}

pub length_part : (n at : ℕ) (s : List ℕ) → at + n ≤ length s → length (take n (drop at s)) ≡ n
length_part n at s h = length-take-le n (drop at s) (simp length-drop (omega arith))

-- a part at a place, and what is after it
pub cut : (n at : ℕ) (s : List ℕ) → take n (drop at s) ++ drop (at + n) s ≡ drop at s
cut n at s = rw (← (drop-drop n at s)) (take-append-drop n (drop at s))

-- two elements at a place, and what is after them
pub two_off : (at : ℕ) (s : List ℕ) → at + 2 ≤ length s → drop at s ≡ get_or s at 0 ∷ get_or s (at + 1) 0 ∷ drop (at + 2) s
two_off at s h =
    let one : at < length s = omega arith in
    let other : suc at < length s = omega arith in
    rw (add-one, add-two, drop-cons s at 0, drop-cons s (suc at) 0)
