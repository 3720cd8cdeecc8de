-- A run that is fed in pieces: where it stands, and what one piece does.
-- Assumes nothing.
use Rattle.std.specs.Prelude.{ℕ, ◌+◌, ◌-◌, min, cond, List, ◌++◌, eqb, length, take, drop}
use Rattle.std.proofs.Math.Seq.{paste}
use Rattle.answer.specs.Numbers.{Answer, accepts}
use Rattle.number.specs.Number.{capped_sum}
use Rattle.frame.specs.Frame.{region_length_size, call_head, most_parts, opening_size}
use Rattle.frame.specs.Views.{call_size}
use Rattle.framed.specs.declared.Heard.{Heard}
use Rattle.framed.specs.declared.Heard.TheVariants.{Waiting, TooLong, Opened, Judged}
use Rattle.framed.specs.Views.{opening_heard, call_heard, region_heard}
use Rattle.run.specs.declared.Stage.{Stage}
use Rattle.run.specs.declared.Stage.TheVariants.{Opening, Calls, Over}
use Rattle.run.specs.declared.State.{State}
use Rattle.run.specs.declared.Said.{Said}
use Rattle.run.specs.declared.Said.TheVariants.{More, Region, Call, Cut, End}
use Rattle.run.specs.declared.Fed.{Fed}

-- a run of which nothing came yet
abbrev pub begun : State
begun = record { stage = Opening; got = 0; region = 0; calls = 0; accepted = 0 }

-- more is needed than the bytes that are there now
abbrev pub waits : State → ℕ → ℕ → Fed
waits s used got =
    record { used = used; state = record { stage = s.stage; got = got; region = s.region; calls = s.calls; accepted = s.accepted }; said = More }

-- the run is over, with what is said of it
abbrev pub stopped : State → ℕ → Said → Fed
stopped s used said =
    record { used = used; state = record { stage = Over; got = 0; region = s.region; calls = s.calls; accepted = s.accepted }; said = said }

-- the region was accepted: calls are next
abbrev pub opens : State → ℕ → ℕ → Answer → Fed
opens s used region a =
    record { used = used; state = record { stage = Calls; got = 0; region = region; calls = s.calls; accepted = s.accepted }; said = Region a }

-- the region was answered
unfoldable pub opened : State → ℕ → ℕ → Answer → Fed
opened s used region a = cond (accepts a) (opens s used region a) (stopped s used (Region a))

-- a call was answered
unfoldable pub call_said : State → ℕ → Answer → Fed
call_said s used a =
    record {
      used = used;
      state = record {
        stage = Calls;
        got = 0;
        region = s.region;
        calls = capped_sum s.calls 1;
        accepted = capped_sum s.accepted (cond (accepts a) 1 0);
      };
      said = Call (capped_sum s.calls 1) a;
    }

-- the input ended
unfoldable pub marked : State → Fed
marked s =
    elim s.stage [
      | Opening ↦ stopped s 0 Cut
      | Calls ↦ cond (eqb s.got 0) (stopped s 0 (End s.accepted)) (stopped s 0 Cut)
      | Over ↦ stopped s 0 (End s.accepted)
    ]

-- how many bytes what is coming has, as far as some bytes tell
abbrev pub wanted_of : Stage → List ℕ → ℕ
wanted_of Opening s = opening_size s
wanted_of Calls s = call_size s
wanted_of Over s = 0

-- the most that it may have
abbrev pub most_of : Stage → ℕ
most_of Opening = 65537
most_of Calls = call_head + most_parts
most_of Over = 0

-- how many bytes of a piece go to those at hand
unfoldable pub taken_of : Stage → List ℕ → List ℕ → ℕ
taken_of stage there piece = min (wanted_of stage (there ++ piece) - length there) (length piece)

-- what the bytes at hand came to, so many now
abbrev pub hears : State → ℕ → ℕ → Heard → Fed
hears s used got Waiting = waits s used got
hears s used got TooLong = stopped s used Cut
hears s used got (Opened len a) = opened s used len a
hears s used got (Judged a) = call_said s used a

-- the bytes at hand of the opening are heard
unfoldable pub opening_answer : State → ℕ → List ℕ → Fed
opening_answer s used there = hears s used (length there) (opening_heard there)

-- those of a call, on a region
unfoldable pub call_answer : State → ℕ → List ℕ → List ℕ → Fed
call_answer s used region there = hears s used (length there) (call_heard region there)

-- what is at hand in a memory, with what a piece adds
unfoldable pub at_hand : Stage → ℕ → List ℕ → List ℕ → List ℕ
unfolding taken_of
at_hand stage got memory piece = take got memory ++ take (taken_of stage (take got memory) piece) piece

-- the memory afterwards
unfoldable pub memory_fed : Stage → ℕ → List ℕ → List ℕ → List ℕ
unfolding taken_of
memory_fed stage got memory piece = paste memory (length (take got memory)) piece (taken_of stage (take got memory) piece)

-- the region in the memory of the opening
abbrev pub region_in : State → List ℕ → List ℕ
region_in s opening = take s.region (drop region_length_size opening)

-- a piece of the opening is fed
unfoldable pub fed_opening : State → List ℕ → List ℕ → Fed
unfolding taken_of at_hand opening_answer
fed_opening s opening piece = opening_answer s (taken_of Opening (take s.got opening) piece) (at_hand Opening s.got opening piece)

-- a piece of a call is fed
unfoldable pub fed_call : State → List ℕ → List ℕ → List ℕ → Fed
unfolding taken_of at_hand call_answer
fed_call s opening frame piece =
    call_answer s (taken_of Calls (take s.got frame) piece) (region_in s opening) (at_hand Calls s.got frame piece)

-- the memory of the opening after a call's bytes: the region in it as the call left it
unfoldable pub opening_called : State → List ℕ → List ℕ → List ℕ → List ℕ
unfolding at_hand region_heard
opening_called s opening frame piece =
    take region_length_size opening
    ++ (region_heard (region_in s opening) (at_hand Calls s.got frame piece) ++ drop s.region (drop region_length_size opening))

-- a piece is fed, by what is coming
abbrev pub fed_at : Stage → State → List ℕ → List ℕ → List ℕ → Fed
fed_at Opening s opening frame piece = fed_opening s opening piece
fed_at Calls s opening frame piece = fed_call s opening frame piece
fed_at Over s opening frame piece = stopped s 0 (End s.accepted)

-- a piece is fed to a run as it stands
unfoldable pub fed : State → List ℕ → List ℕ → List ℕ → Fed
fed s opening frame piece = fed_at s.stage s opening frame piece

-- the memory of the opening afterwards, by what was coming
abbrev pub opening_fed_at : Stage → State → List ℕ → List ℕ → List ℕ → List ℕ
opening_fed_at Opening s opening frame piece = memory_fed Opening s.got opening piece
opening_fed_at Calls s opening frame piece = opening_called s opening frame piece
opening_fed_at Over s opening frame piece = opening

-- the memory of the opening after a piece
unfoldable pub opening_fed : State → List ℕ → List ℕ → List ℕ → List ℕ
opening_fed s opening frame piece = opening_fed_at s.stage s opening frame piece

-- the memory of a call afterwards, by what was coming
abbrev pub frame_fed_at : Stage → State → List ℕ → List ℕ → List ℕ
frame_fed_at Opening s frame piece = frame
frame_fed_at Calls s frame piece = memory_fed Calls s.got frame piece
frame_fed_at Over s frame piece = frame

-- the memory of a call after a piece
unfoldable pub frame_fed : State → List ℕ → List ℕ → List ℕ
frame_fed s frame piece = frame_fed_at s.stage s frame piece
