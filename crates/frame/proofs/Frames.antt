-- Laws of what stands at the front of the input, each by the tests that lead to it.
-- Assumes nothing.
use Prim.Native.Nat.{ℕ, ◌+◌, ◌<◌, ◌≤◌}
use mathlib.Core.Path.{◌≡◌}
use mathlib.Core.List.{List}
use borrow.Author.Tests.{le-leb, lt-leb}
use lib.ListN.{length}
use Rattle.frame.specs.declared.Front.TheVariants.{Whole, Long, Short}
use Rattle.frame.specs.Frame.{call_head, most_parts, parts_length, whole_call, front_of}
use Rattle.frame.specs.Views.{call_size}

pub size_short : (s : List ℕ) → length s < call_head → call_size s ≡ call_head
unfolding call_size
size_short s h = rw (lt-leb _ _ h)

pub front_short : (s : List ℕ) → length s < call_head → front_of s ≡ Short
unfolding front_of
front_short s h = rw (lt-leb _ _ h)

module _ (s : List ℕ) (head : call_head ≤ length s) where
  pub size_long : most_parts < parts_length s → call_size s ≡ call_head
  unfolding call_size
  size_long long = rw (le-leb _ _ head, lt-leb _ _ long)

  pub front_long : most_parts < parts_length s → front_of s ≡ Long
  unfolding front_of
  front_long long = rw (le-leb _ _ head, lt-leb _ _ long)

  module _ (fits : parts_length s ≤ most_parts) where
    pub size_there : call_size s ≡ call_head + parts_length s
    unfolding call_size
    size_there = rw (le-leb _ _ head, le-leb _ _ fits)

    pub front_past : length s < call_head + parts_length s → front_of s ≡ Short
    unfolding front_of
    front_past past = rw (le-leb _ _ head, le-leb _ _ fits, lt-leb _ _ past)

    pub front_there : call_head + parts_length s ≤ length s → front_of s ≡ Whole (whole_call s)
    unfolding front_of
    front_there there = rw (le-leb _ _ head, le-leb _ _ fits, le-leb _ _ there)
