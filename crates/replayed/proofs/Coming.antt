-- What is still to be said by a run that is fed, and the region that it holds then, by what is coming: the lines of what is at hand and what is left.
-- Assumes nothing.
use Prim.Native.Nat.{ℕ, ◌+◌, ◌*◌, ◌^◌, ◌<◌, ◌≤◌}
use mathlib.Core.Path.{◌≡◌}
use mathlib.Core.Bool.{false}
use mathlib.Core.List.{List, [], ◌∷◌, ◌++◌}
use lib.ListN.{length, take}
use Rattle.number.specs.Number.{Bytes}
use Rattle.frame.specs.Frame.{region_length_size, call_head, opening_size}
use Rattle.frame.specs.Views.{call_size}
use Rattle.bursar.specs.Run.{ours, after_run}
use Rattle.bursar.proofs.OneCall.{Stands}
use Rattle.run.specs.declared.Stage.TheVariants.{Opening, Calls, Over}
use Rattle.run.specs.declared.Fed.{Fed}
use Rattle.replayed.specs.Replay.{calls_in, Line, end_line, call_lines, replay_of}
use Rattle.replayed.specs.Feeding.{line_of, is_end, Held, region_held, region_left}

-- the opening is coming, with some of its bytes there; the input has fewer bytes than 2^64 calls have heads
pub record Opens (h : Held) (left there : List ℕ) : Type 0 where
  pub stage_is : h.state.stage ≡ Opening
  pub there_is : take h.state.got h.opening ≡ there
  pub no_calls : h.state.calls ≡ 0
  pub none_accepted : h.state.accepted ≡ 0
  pub no_region : h.state.region ≡ 0
  pub short : length there < opening_size there
  pub bytes : Bytes (there ++ left)
  pub small : length (there ++ left) < call_head * 2 ^ 64

-- a call is coming, with some of its bytes there, on a region that stands
pub record Judges (h : Held) (left there region : List ℕ) : Type 0 where
  pub stage_is : h.state.stage ≡ Calls
  pub there_is : take h.state.got h.frame ≡ there
  pub got_is : h.state.got ≡ length there
  pub region_is : region_held h ≡ region
  pub region_long : length region ≡ h.state.region
  pub length_there : region_length_size ≤ length h.opening
  pub stands : Stands region
  pub short : length there < call_size there
  pub few : h.state.accepted ≤ h.state.calls
  pub small : h.state.calls * call_head + length (there ++ left) < call_head * 2 ^ 64

-- the lines of calls that are cut from some bytes
abbrev pub lines_of : List ℕ → ℕ → ℕ → List ℕ → List Line
lines_of held calls accepted s = call_lines held calls accepted (calls_in s).is_cut (calls_in s).list

-- the lines to come and the region in the end
pub data Coming (h : Held) (left : List ℕ) (lines : List Line) (region : List ℕ) : Type 0 where
  opens : (there : List ℕ) → Opens h left there → lines ≡ replay_of (there ++ left) → region ≡ region_left (there ++ left) → Coming h left lines region
  judges : (there held : List ℕ) → Judges h left there held → lines ≡ lines_of held h.state.calls h.state.accepted (there ++ left)
      → region ≡ after_run ours held (calls_in (there ++ left)).list → Coming h left lines region
  over : h.state.stage ≡ Over → lines ≡ end_line h.state.accepted ∷ [] → region ≡ region_held h → Coming h left lines region

-- a piece, or the end mark, that is not the last: a line of those to come, and the rest still to come
pub record Step (left : List ℕ) (lines : List Line) (region : List ℕ) (r : Fed) (opening frame : List ℕ) : Type 0 where
  pub goes_on : is_end r.said ≡ false
  pub next : List Line
  pub said_is : lines ≡ line_of r.said ++ next
  pub coming : Coming (record { state = r.state; opening = opening; frame = frame }) left next region
