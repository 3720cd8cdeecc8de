-- One piece of the calls: the call is still not whole, or it was judged, or it is too long.
-- Assumes nothing.
use Prim.Native.Nat.{ℕ, ◌+◌, ◌*◌, ◌^◌, ◌<◌, ◌≤◌}
use mathlib.Core.Path.{◌≡◌, refl, sym, ap, ◌∙◌}
use mathlib.Core.Bool.{Bool, true, false, cond}
use mathlib.Core.List.{List, [], ◌∷◌, ◌++◌}
use native.Mathlib.Nat.{le_refl}
use native.Mathlib.Omega.{arith}
use lib.ListN.{length, take, drop, length-append}
use lib.Seq.{take-append_seam, drop-append_seam, drop_at, length-take-le}
use Rattle.answer.specs.Numbers.{number_of, accepts}
use Rattle.number.specs.Number.{capped_sum, highest}
use Rattle.judge.specs.Judge.{Call, judged, region_after}
use Rattle.frame.specs.declared.CallView.{CallView}
use Rattle.frame.specs.declared.Front.TheVariants.{Whole, Long, Short}
use Rattle.frame.specs.Frame.{region_length_size, call_head, parts_length, whole_call, front_of}
use Rattle.frame.specs.Views.{call_size}
use Rattle.frame.proofs.Frames.{size_short}
use Rattle.frame.proofs.Theorems.{Sized, short, long, past, there, sized, front_before_more_input, call_is_there, call_size_before_more_input, call_size_at_least}
use Rattle.framed.specs.Framed.{call_in}
use Rattle.framed.specs.Views.{region_heard}
use Rattle.framed.proofs.Laws.{region_judged, region_too_long, region_waits, call_before_more_input}
use Rattle.bursar.specs.Run.{ours, after_run}
use Rattle.bursar.proofs.OneCall.{still_stands, as_long}
use Rattle.run.specs.declared.Stage.TheVariants.{Calls}
use Rattle.run.specs.declared.State.{State}
use Rattle.run.specs.declared.Said.TheVariants.{Cut}
use Rattle.run.specs.declared.Fed.{Fed}
use Rattle.replayed.specs.Replay.{one_more, calls_in, Line, call_line, cut_line, end_line, call_lines}
use Rattle.run.specs.Views.{waits, stopped, call_said, call_answer, memory_fed, fed_call, opening_called}
use Rattle.replayed.specs.Feeding.{Held}
use Rattle.run.proofs.Laws.{call_answered, call_stops, call_waits}
use Rattle.replayed.proofs.Cutting.{calls_whole, calls_long}
use Rattle.run.proofs.Pieces.{taken, at_hand_lem, left, joined_before, Goes, on, whole, goes, takes_of, there_then, front-taken}
use Rattle.replayed.proofs.Coming.{Judges, lines_of, judges, over, Step}

-- ---- the lines of a call that is all there, and what follows it

module _ (held : List ℕ) (calls accepted : ℕ) (s t : List ℕ) (size : length s ≡ call_size s) where
  pub lines_long : front_of s ≡ Long → lines_of held calls accepted (s ++ t) ≡ cut_line ∷ end_line accepted ∷ []
  unfolding call_lines
  lines_long front = rw (calls_long (s ++ t) (front_before_more_input s t (rw size (le_refl _)) ∙ front))

  pub left_long : front_of s ≡ Long → after_run ours held (calls_in (s ++ t)).list ≡ held
  unfolding after_run
  left_long front = rw (calls_long (s ++ t) (front_before_more_input s t (rw size (le_refl _)) ∙ front))

  module _ (c : CallView) (front : front_of s ≡ Whole c) where
    calls_are : calls_in (s ++ t) ≡ one_more (call_in s c) (calls_in t)
    calls_are =
        let front' : front_of (s ++ t) ≡ Whole c = front_before_more_input s t (rw size (le_refl _)) ∙ front in
        let whole_size = (call_is_there (s ++ t) c front').size in
        let same : call_size (s ++ t) ≡ call_size s = call_size_before_more_input s t (rw size (call_size_at_least s)) in
        let behind : drop (call_head + parts_length (s ++ t)) (s ++ t) ≡ t = rw (← whole_size, same, ← size) (drop-append_seam s t) in
        calls_whole (s ++ t) c front' ∙ rw (call_before_more_input s t c front, behind)

    pub lines_call : lines_of held calls accepted (s ++ t)
        ≡ call_line (calls + 1) (number_of (judged held (call_in s c)))
        ∷ lines_of (region_after held (call_in s c)) (calls + 1) (accepted + cond (accepts (judged held (call_in s c))) 1 0) t
    unfolding call_lines
    lines_call = rw calls_are

    pub left_call : after_run ours held (calls_in (s ++ t)).list ≡ after_run ours (region_after held (call_in s c)) (calls_in t).list
    unfolding after_run
    left_call = rw calls_are

-- ---- the region in the memory of the opening

module _ (opening : List ℕ) (n : ℕ) (region tail : List ℕ) (two : region_length_size ≤ length opening) (long : length region ≡ n) where
  pub region_put : take n (drop region_length_size (take region_length_size opening ++ (region ++ tail))) ≡ region
  region_put =
      ap (take n) (drop_at (take region_length_size opening) (region ++ tail) region_length_size (length-take-le region_length_size opening two))
      ∙ rw (← long) (take-append_seam region tail)

  pub still_two : region_length_size ≤ length (take region_length_size opening ++ (region ++ tail))
  still_two = rw (length-append (take region_length_size opening) (region ++ tail), length-take-le region_length_size opening two) (omega arith)

-- ---- one piece

module _ (h : Held) (piece rest now region : List ℕ) (at : Judges h (piece ++ rest) now region) where
  abbrev state : State
  state = h.state

  abbrev n : ℕ
  n = taken Calls now piece

  abbrev there_now : List ℕ
  there_now = at_hand_lem Calls now piece

  abbrev more : List ℕ
  more = left Calls now piece ++ rest

  abbrev frame : List ℕ
  frame = memory_fed Calls state.got h.frame piece

  -- the memory of the opening with another region
  abbrev with_region : List ℕ → List ℕ
  with_region r = take region_length_size h.opening ++ (r ++ drop state.region (drop region_length_size h.opening))

  abbrev joined : there_now ++ more ≡ now ++ (piece ++ rest)
  joined = joined_before Calls now piece rest

  abbrev lines : List Line
  lines = lines_of region state.calls state.accepted (now ++ (piece ++ rest))

  abbrev in_the_end : List ℕ
  in_the_end = after_run ours region (calls_in (now ++ (piece ++ rest))).list

  abbrev StepTo : Fed → List ℕ → Type 0
  StepTo r region' = Step (drop r.used piece ++ rest) lines in_the_end r (with_region region') frame

  small_now : state.calls * call_head + length (there_now ++ more) < call_head * 2 ^ 64
  small_now = rw joined at.small

  still_judges : length there_now < call_size there_now → StepTo (waits state n (length there_now)) region
  still_judges less =
      record {
        goes_on = refl;
        next = lines_of region state.calls state.accepted (there_now ++ more);
        said_is = rw joined;
        coming =
            judges there_now region
            (record {
              stage_is = at.stage_is;
              there_is = front-taken Calls state.got h.frame piece at.there_is;
              got_is = refl;
              region_is = region_put h.opening state.region region _ at.length_there at.region_long;
              region_long = at.region_long;
              length_there = still_two h.opening state.region region _ at.length_there at.region_long;
              stands = at.stands;
              short = less;
              few = at.few;
              small = small_now;
            })
            refl (rw joined);
      }

  too_long : length there_now ≡ call_size there_now → front_of there_now ≡ Long → StepTo (stopped state n Cut) region
  too_long size front =
      record {
        goes_on = refl;
        next = end_line state.accepted ∷ [];
        said_is = rw (← joined) (lines_long region state.calls state.accepted there_now more size front);
        coming =
            over refl refl
            (rw (← joined)
            (left_long region state.calls state.accepted there_now more size front
            ∙ sym (region_put h.opening state.region region _ at.length_there at.region_long)));
      }

  module _ (size : length there_now ≡ call_size there_now) (c : CallView) (front : front_of there_now ≡ Whole c) where
    abbrev the_call : Call
    the_call = call_in there_now c

    -- a whole call has the bytes of a head, so the calls before it are fewer than 2^64 - 1
    counted : capped_sum state.calls 1 ≡ state.calls + 1
    unfolding capped_sum highest
    counted = omega (arith, small_now, length-append there_now more, size, call_size_at_least there_now)

    accepted_counted : (k : ℕ) → k ≤ 1 → capped_sum state.accepted k ≡ state.accepted + k
    unfolding capped_sum highest
    accepted_counted k one = omega (arith, at.few, small_now, length-append there_now more, size, call_size_at_least there_now)

    at_most_one : (t : Bool) → ◌≤◌ (cond t 1 0) 1
    at_most_one true = omega arith
    at_most_one false = omega arith

    was_judged : StepTo (call_said state n (judged region the_call)) (region_after region the_call)
    unfolding call_said
    was_judged =
        let one = accepted_counted (cond (accepts (judged region the_call)) 1 0) (at_most_one (accepts (judged region the_call))) in
        let long' : length (region_after region the_call) ≡ state.region = as_long region the_call at.stands ∙ at.region_long in
        record {
          goes_on = refl;
          next = lines_of (region_after region the_call) (state.calls + 1) (state.accepted + cond (accepts (judged region the_call)) 1 0) more;
          said_is = rw (← joined, counted) (lines_call region state.calls state.accepted there_now more size c front);
          coming =
              judges [] (region_after region the_call)
              (record {
                stage_is = refl;
                there_is = refl;
                got_is = refl;
                region_is = region_put h.opening state.region (region_after region the_call) _ at.length_there long';
                region_long = long';
                length_there = still_two h.opening state.region (region_after region the_call) _ at.length_there long';
                stands = still_stands region the_call at.stands;
                short = rw (size_short [] (omega arith)) (omega arith);
                few = rw (counted, one) (omega (arith, at.few, at_most_one (accepts (judged region the_call))));
                small = rw counted (omega (arith, small_now, length-append there_now more, size, call_size_at_least there_now));
              })
              (rw (counted, one))
              (rw (← joined) (left_call region state.calls state.accepted there_now more size c front));
        }

  -- by what the bytes at hand begin with
  by_front : Goes Calls now piece → StepTo (call_answer state n region there_now) (region_heard region there_now)
  by_front (on less) = go (sized there_now)
    where
      waits_still : front_of there_now ≡ Short → StepTo (call_answer state n region there_now) (region_heard region there_now)
      waits_still front = rw (call_waits state n there_now region front, region_waits there_now region front) (still_judges less)

      go : Sized there_now → StepTo (call_answer state n region there_now) (region_heard region there_now)
      go (short _ _ front) = waits_still front
      go (long head _ size _) = absurd (omega arith)
      go (past _ _ _ _ front) = waits_still front
      go (there _ _ _ all _) = absurd (omega arith)
  by_front (whole size) = go (sized there_now)
    where
      go : Sized there_now → StepTo (call_answer state n region there_now) (region_heard region there_now)
      go (short less told _) = absurd (omega arith)
      go (long _ _ _ front) = rw (call_stops state n there_now region front, region_too_long there_now region front) (too_long size front)
      go (past _ _ _ less _) = absurd (omega arith)
      go (there _ _ _ _ front) =
          rw (call_answered state n there_now region (whole_call there_now) front, region_judged there_now region (whole_call there_now) front)
          (was_judged size (whole_call there_now) front)

  pub call_step : Step (drop (fed_call state h.opening h.frame piece).used piece ++ rest) lines in_the_end (fed_call state h.opening h.frame piece)
      (opening_called state h.opening h.frame piece) frame
  unfolding fed_call opening_called
  call_step =
      rw (
        there_then Calls state.got h.frame piece at.there_is,
        takes_of Calls state.got h.frame piece at.there_is,
        at.region_is,
      )
      (by_front (goes Calls now piece at.short))
