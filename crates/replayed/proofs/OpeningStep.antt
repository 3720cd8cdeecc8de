-- One piece of the opening: it is still not whole, or the region was answered and calls come, or none.
-- Assumes nothing.
use Prim.Native.Nat.{ℕ, ◌*◌, ◌^◌, ◌<◌, ◌≤◌}
use mathlib.Core.Path.{◌≡◌, refl, sym, ap, subst, ◌∙◌}
use mathlib.Core.Bool.{Bool, true, false}
use mathlib.Core.List.{List, [], ◌∷◌, ◌++◌}
use native.Mathlib.Nat.{le_refl}
use native.Mathlib.Omega.{arith}
use borrow.Author.Tests.{le-leb, lt-leb}
use lib.ListN.{length, take, drop, length-append, length-drop}
use lib.Seq.{length-take-le, take-append_seam, drop-append_seam}
use Rattle.answer.specs.Numbers.{number_of, accepts}
use Rattle.number.specs.Number.{Bytes, number_at}
use Rattle.number.proofs.Laws.{bytes_take, bytes_drop}
use Rattle.creation.specs.Creation.{creation}
use Rattle.frame.specs.Frame.{region_length_size, call_head, opening_size, opening_region}
use Rattle.frame.proofs.Frames.{size_short}
use Rattle.frame.proofs.Theorems.{opening_size_before_more_input, opening_region_before_more_input, opening_size_at_least}
use Rattle.bursar.specs.Run.{ours, after_run}
use Rattle.bursar.proofs.Theorems.{created_stands}
use Rattle.run.specs.declared.Stage.TheVariants.{Opening}
use Rattle.run.specs.declared.State.{State}
use Rattle.run.specs.declared.Fed.{Fed}
use Rattle.replayed.specs.Replay.{calls_in, region_line, cut_line, end_line, lines_from, replay_of}
use Rattle.run.specs.Views.{waits, opening_answer, fed_opening, memory_fed}
use Rattle.replayed.specs.Feeding.{Held, region_left}
use Rattle.run.proofs.Laws.{opening_waits, opening_answered, opened_accepted, opened_refused}
use Rattle.run.proofs.Pieces.{taken, at_hand_lem, left, joined_before, Goes, on, whole, goes, takes_of, there_then, at_the_front, front-taken}
use Rattle.replayed.proofs.Coming.{Opens, lines_of, opens, judges, over, Step}

-- ---- the lines of an input by its opening

module _ (s : List ℕ) where
  pub replay_cut : length s < opening_size s → replay_of s ≡ cut_line ∷ end_line 0 ∷ []
  unfolding replay_of
  replay_cut h = rw (lt-leb _ _ h)

  pub nothing_left : length s < opening_size s → region_left s ≡ []
  unfolding region_left
  nothing_left h = rw (lt-leb _ _ h)

-- an opening that is all there, and what follows it
module _ (s t : List ℕ) (size : length s ≡ opening_size s) where
  enough : region_length_size ≤ length s
  enough = rw size (opening_size_at_least s)

  same_size : opening_size (s ++ t) ≡ opening_size s
  same_size = opening_size_before_more_input s t enough

  same_region : opening_region (s ++ t) ≡ opening_region s
  same_region = opening_region_before_more_input s t (rw size (le_refl _))

  behind : drop (opening_size (s ++ t)) (s ++ t) ≡ t
  behind = rw (same_size, ← size) (drop-append_seam s t)

  there : opening_size (s ++ t) ≤ length (s ++ t)
  there = rw (same_size, length-append s t) (omega arith)

  replay_there : replay_of (s ++ t) ≡ lines_from (opening_region s) (calls_in t)
  unfolding replay_of
  replay_there = rw (le-leb _ _ there, same_region, behind)

  module _ (held : List ℕ) (is : held ≡ opening_region s) where
    pub replay_accepted : accepts (creation held) ≡ true
        → replay_of (s ++ t) ≡ region_line (number_of (creation held)) ∷ lines_of held 0 0 t
    unfolding lines_from
    replay_accepted yes' = rw replay_there (rw (← is, yes'))

    pub replay_refused : accepts (creation held) ≡ false → replay_of (s ++ t) ≡ region_line (number_of (creation held)) ∷ end_line 0 ∷ []
    unfolding lines_from
    replay_refused no' = rw replay_there (rw (← is, no'))

    pub left_accepted : accepts (creation held) ≡ true → region_left (s ++ t) ≡ after_run ours held (calls_in t).list
    unfolding region_left
    left_accepted yes' = rw (le-leb _ _ there, same_region, ← is, yes', behind)

    pub left_refused : accepts (creation held) ≡ false → region_left (s ++ t) ≡ []
    unfolding region_left
    left_refused no' = rw (le-leb _ _ there, same_region, ← is, no')

  -- the region lies where the opening lies, and is as long as the length says
  pub region_in_place : take (number_at 2 s 0) (drop region_length_size (s ++ t)) ≡ opening_region s
  unfolding opening_region
  region_in_place =
      let same : number_at 2 (s ++ t) 0 ≡ number_at 2 s 0 = omega (arith, same_size) in
      ap (λ (n : ℕ). take n (drop region_length_size (s ++ t))) (sym same) ∙ same_region

  pub region_length : length (opening_region s) ≡ number_at 2 s 0
  unfolding opening_region
  region_length = length-take-le (number_at 2 s 0) (drop region_length_size s) (rw (length-drop region_length_size s) (omega arith))

-- ---- one piece

module _ (h : Held) (piece rest now : List ℕ) (at : Opens h (piece ++ rest) now) where
  abbrev state : State
  state = h.state

  abbrev n : ℕ
  n = taken Opening now piece

  abbrev there_now : List ℕ
  there_now = at_hand_lem Opening now piece

  abbrev more : List ℕ
  more = left Opening now piece ++ rest

  abbrev opening : List ℕ
  opening = memory_fed Opening state.got h.opening piece

  abbrev joined : there_now ++ more ≡ now ++ (piece ++ rest)
  joined = joined_before Opening now piece rest

  abbrev StepTo : Fed → Type 0
  StepTo r = Step (drop r.used piece ++ rest) (replay_of (now ++ (piece ++ rest))) (region_left (now ++ (piece ++ rest))) r opening h.frame

  bytes_now : Bytes (there_now ++ more)
  bytes_now = subst Bytes (sym joined) at.bytes

  small_now : length (there_now ++ more) < call_head * 2 ^ 64
  small_now = rw joined at.small

  still_opens : length there_now < opening_size there_now → StepTo (waits state n (length there_now))
  still_opens short =
      record {
        goes_on = refl;
        next = replay_of (there_now ++ more);
        said_is = rw joined;
        coming =
            opens there_now
            (record {
              stage_is = at.stage_is;
              there_is = front-taken Opening state.got h.opening piece at.there_is;
              no_calls = at.no_calls;
              none_accepted = at.none_accepted;
              no_region = at.no_region;
              short = short;
              bytes = bytes_now;
              small = small_now;
            })
            refl (rw joined);
      }

  module _ (size : length there_now ≡ opening_size there_now) where
    abbrev held : List ℕ
    held = opening_region there_now

    abbrev len : ℕ
    len = number_at 2 there_now 0

    bytes_held : Bytes held
    unfolding opening_region
    bytes_held =
        let all : Bytes there_now = subst Bytes (take-append_seam there_now more) (bytes_take (length there_now) (there_now ++ more) bytes_now) in
        bytes_take len (drop region_length_size there_now) (bytes_drop region_length_size there_now all)

    answered : (t : Bool) → accepts (creation held) ≡ t → StepTo (opening_answer state n there_now)
    answered true yes' =
        let is = opening_answered state n there_now (rw size (le_refl _)) ∙ opened_accepted state n len (creation held) yes' in
        subst StepTo (sym is)
        (record {
          goes_on = refl;
          next = lines_of held state.calls state.accepted more;
          said_is = rw (← joined, at.no_calls, at.none_accepted) (replay_accepted there_now more size held refl yes');
          coming =
              judges [] held
              (record {
                stage_is = refl;
                there_is = refl;
                got_is = refl;
                region_is = rw (at_the_front Opening state.got h.opening piece at.there_is) (region_in_place there_now _ size);
                region_long = region_length there_now [] size;
                length_there = rw (at_the_front Opening state.got h.opening piece at.there_is, length-append there_now _) (omega (arith, enough there_now [] size));
                stands = created_stands held (bytes_held, yes');
                short = rw (size_short [] (omega arith)) (omega arith);
                few = omega arith;
                small = omega (arith, small_now, length-append there_now more);
              })
              refl
              (rw (← joined) (left_accepted there_now more size held refl yes'));
        })
    answered false no' =
        let is = opening_answered state n there_now (rw size (le_refl _)) ∙ opened_refused state n len (creation held) no' in
        subst StepTo (sym is)
        (record {
          goes_on = refl;
          next = end_line 0 ∷ [];
          said_is = rw (← joined) (replay_refused there_now more size held refl no');
          coming = over refl (rw at.none_accepted) (rw (← joined, at.no_region) (left_refused there_now more size held refl no'));
        })

  pub opening_step : StepTo (fed_opening state h.opening piece)
  unfolding fed_opening
  opening_step = rw (there_then Opening state.got h.opening piece at.there_is, takes_of Opening state.got h.opening piece at.there_is) (go (goes Opening now piece at.short))
    where
      go : Goes Opening now piece → StepTo (opening_answer state n there_now)
      go (on short) = subst StepTo (sym (opening_waits state n there_now short)) (still_opens short)
      go (whole size) = answered size (accepts (creation (opening_region there_now))) refl
