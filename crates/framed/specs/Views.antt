-- What some bytes at the front of the replay's input come to, and the region afterwards.
-- Assumes nothing.
use Rattle.std.specs.Prelude.{ℕ, cond, List, leb, length}
use Rattle.number.specs.Number.{number_at}
use Rattle.creation.specs.Creation.{creation}
use Rattle.judge.specs.Judge.{judged, region_after}
use Rattle.frame.specs.declared.Front.TheVariants.{Whole, Long, Short}
use Rattle.frame.specs.Frame.{opening_size, opening_region, front_of}
use Rattle.framed.specs.declared.Heard.{Heard}
use Rattle.framed.specs.declared.Heard.TheVariants.{Waiting, TooLong, Opened, Judged}
use Rattle.framed.specs.Framed.{call_in}

-- the opening
unfoldable pub opening_heard : List ℕ → Heard
opening_heard s = cond (leb (opening_size s) (length s)) (Opened (number_at 2 s 0) (creation (opening_region s))) Waiting

-- a call, on a region
unfoldable pub call_heard : List ℕ → List ℕ → Heard
call_heard region s = elim (front_of s) [ Whole c ↦ Judged (judged region (call_in s c)) | Long ↦ TooLong | Short ↦ Waiting ]

-- the region afterwards
unfoldable pub region_heard : List ℕ → List ℕ → List ℕ
region_heard region s = elim (front_of s) [ Whole c ↦ region_after region (call_in s c) | Long ↦ region | Short ↦ region ]
