-- A run that is fed an input in pieces, whatever they are, and what it says.
-- Assumes nothing.
use Rattle.std.specs.Prelude.{ℕ, ◌≡◌, Bool, true, false, cond, ◌&&◌, List, [], ◌∷◌, ◌++◌, leb, length, drop}
use Rattle.answer.specs.Numbers.{number_of, accepts}
use Rattle.creation.specs.Creation.{creation}
use Rattle.frame.specs.Frame.{opening_size, opening_region}
use Rattle.bursar.specs.Run.{ours, after_run}
use Rattle.run.specs.declared.State.{State}
use Rattle.run.specs.declared.Said.{Said}
use Rattle.run.specs.declared.Said.TheVariants.{More, Region, Call, Cut, End}
use Rattle.replayed.specs.Replay.{calls_in, Line, region_line, call_line, cut_line, end_line}
use Rattle.run.specs.Views.{begun, marked, region_in, fed, opening_fed, frame_fed}

-- the line for what was said
abbrev pub line_of : Said → List Line
line_of More = []
line_of (Region a) = region_line (number_of a) ∷ []
line_of (Call k a) = call_line k (number_of a) ∷ []
line_of Cut = cut_line ∷ []
line_of (End n) = end_line n ∷ []

-- whether that was the end
abbrev pub is_end : Said → Bool
is_end More = false
is_end (Region a) = false
is_end (Call k a) = false
is_end Cut = false
is_end (End n) = true

-- a run with its two memories
pub record Held : Type 0 where
  pub state : State
  pub opening : List ℕ
  pub frame : List ℕ

-- at the start, in memories with anything in them
abbrev pub held_at_first : List ℕ → List ℕ → Held
held_at_first opening frame = record { state = begun; opening = opening; frame = frame }

-- after a piece
abbrev pub held_after : Held → List ℕ → Held
held_after h piece =
    record {
      state = (fed h.state h.opening h.frame piece).state;
      opening = opening_fed h.state h.opening h.frame piece;
      frame = frame_fed h.state h.frame piece;
    }

-- after the end mark
abbrev pub held_marked : Held → Held
held_marked h = record { state = (marked h.state).state; opening = h.opening; frame = h.frame }

-- the region that a run holds
abbrev pub region_held : Held → List ℕ
region_held h = region_in h.state h.opening

-- the region that a replay leaves: the opening's after its calls, none where that was not accepted
unfoldable pub region_left : List ℕ → List ℕ
region_left s =
    cond (leb (opening_size s) (length s) && accepts (creation (opening_region s)))
    (after_run ours (opening_region s) (calls_in (drop (opening_size s) s)).list)
    []

-- fed what is left of an input in some pieces, and the end mark behind the last, a run says some lines up to its end, and is then as it is last held:
-- a piece is any bytes that come next, and what is not used of it comes again
pub data Says : Held → List ℕ → List Line → Held → Type 0 where
  feeds : (h : Held) (piece rest : List ℕ) (lines : List Line) (last : Held)
      → is_end (fed h.state h.opening h.frame piece).said ≡ false
      → Says (held_after h piece) (drop (fed h.state h.opening h.frame piece).used piece ++ rest) lines last
      → Says h (piece ++ rest) (line_of (fed h.state h.opening h.frame piece).said ++ lines) last
  feeds_last : (h : Held) (piece rest : List ℕ) → is_end (fed h.state h.opening h.frame piece).said ≡ true
      → Says h (piece ++ rest) (line_of (fed h.state h.opening h.frame piece).said) (held_after h piece)
  marks : (h : Held) (lines : List Line) (last : Held) → is_end (marked h.state).said ≡ false → Says (held_marked h) [] lines last
      → Says h [] (line_of (marked h.state).said ++ lines) last
  marks_last : (h : Held) → is_end (marked h.state).said ≡ true → Says h [] (line_of (marked h.state).said) (held_marked h)
