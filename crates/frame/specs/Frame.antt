-- The replay's input: the opening region, and the calls after it.
-- Assumes nothing.
use Rattle.std.specs.Prelude.{ℕ, ◌+◌, cond, List, leb, length, take, drop}
use Rattle.number.specs.Number.{number_at}
use Rattle.part.specs.Part.{part_at}
use Rattle.frame.specs.declared.Part.{Part}
use Rattle.frame.specs.declared.CallView.{CallView}
use Rattle.frame.specs.declared.Front.{Front}
use Rattle.frame.specs.declared.Front.TheVariants.{Whole, Long, Short}

-- the bytes of the region's length
abbrev pub region_length_size : ℕ
region_length_size = 2

-- the bytes of a call before its parts: four numbers of 8, three lengths of 4, and the vault key
abbrev pub call_head : ℕ
call_head = 76

-- the most bytes that a call's parts have together
abbrev pub most_parts : ℕ
most_parts = 60000

-- how many bytes the opening has: the region's length and the region; the two of its length where that is not all there
abbrev pub opening_size : List ℕ → ℕ
opening_size s = region_length_size + number_at 2 s 0

-- the region of an opening that is all there: as many bytes behind its length as that says
unfoldable pub opening_region : List ℕ → List ℕ
opening_region s = take (number_at 2 s 0) (drop region_length_size s)

-- the bytes that a part names, nothing where they are not all there
abbrev pub part_in : List ℕ → Part → List ℕ
part_in s p = part_at s p.at p.len

-- how long a call's three parts are together: table before, table after, instructions
unfoldable pub parts_length : List ℕ → ℕ
parts_length s = number_at 4 s 32 + number_at 4 s 36 + number_at 4 s 40

-- slot, lamports before and after, and gross; then the vault key at 44, and the three parts one after the other behind the head
unfoldable pub whole_call : List ℕ → CallView
whole_call s =
    record {
      slot = number_at 8 s 0;
      lamports_before = number_at 8 s 8;
      lamports_after = number_at 8 s 16;
      gross = number_at 8 s 24;
      vault = record { at = 44; len = 32 };
      before = record { at = call_head; len = number_at 4 s 32 };
      after = record { at = call_head + number_at 4 s 32; len = number_at 4 s 36 };
      instructions = record { at = call_head + number_at 4 s 32 + number_at 4 s 36; len = number_at 4 s 40 };
    }

-- what some bytes begin with: a call that is all there, one whose parts are too long, or less than a call
unfoldable pub front_of : List ℕ → Front
unfolding parts_length whole_call
front_of s =
    cond (leb call_head (length s))
    (cond (leb (parts_length s) most_parts) (cond (leb (call_head + parts_length s) (length s)) (Whole (whole_call s)) Short) Long)
    Short
