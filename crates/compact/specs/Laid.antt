-- How the entries of a list lie in the sixteen places that hold them.
-- Assumes nothing.
use Rattle.std.specs.Prelude.{◌≡◌, ◌-◌, ◌≤◌, ◌++◌, length, take, replicate}
use mathlib.Core.Path.{refl}
use native.Mathlib.Omega.{arith}
use lib.Seq.{length-take-le}
use Rattle.arrayvec.specs.ArrayVec.{ArrayVec}
use Rattle.compact.specs.declared.Entry.{Entry}
use Rattle.compact.specs.declared.Entries.TheInside.{Inside}
use Rattle.compact.specs.Compact.{most_instructions}

-- the entry of the places that hold none
abbrev pub zero_entry : Entry
zero_entry = record { program = 0; accounts = record { start = 0; len = 0 }; payload = record { start = 0; len = 0 } }

-- the places of some entries: these first, and zeros past them
unfoldable pub laid : ArrayVec Entry → Inside
laid l = record { list = l.items ++ replicate (most_instructions - length l.items) zero_entry; count = length l.items }

-- there are sixteen places, and zeros past the count
pub record Laid (e : Inside) : Type 0 where
  pub few : e.count ≤ most_instructions
  pub all : length e.list ≡ most_instructions
  pub zeros : e.list ≡ take e.count e.list ++ replicate (most_instructions - e.count) zero_entry

-- where the entries of a list lie is known from the list
pub laid_again : (e : Inside) → Laid e → laid (record { items = take e.count e.list }) ≡ e
unfolding laid
laid_again e h =
    let n : length (take e.count e.list) ≡ e.count = length-take-le e.count e.list (omega (arith, h.few, h.all)) in
    rw (n, ← h.zeros) refl
