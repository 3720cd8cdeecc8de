-- Laws of a run's next state, each by the tests that lead to it.
-- Assumes nothing.
use Prim.Native.Nat.{ℕ, ◌<◌, ◌≤◌}
use mathlib.Core.Path.{◌≡◌, refl, sym, ap, ◌∙◌}
use mathlib.Core.Bool.{Bool, true, false, cond}
use mathlib.Core.List.{List}
use borrow.Author.Tests.{eq-eqb, ne_eqb}
use lib.ListN.{length}
use mir.Val.{bool_byte}
use Rattle.std.specs.Result.{is_ok, is_err}
use Rattle.answer.specs.Numbers.{Answer, accepts}
use Rattle.answer.specs.Refusable.{Ok, Err}
use Rattle.number.specs.Number.{number_at}
use Rattle.creation.specs.Creation.{creation}
use Rattle.judge.specs.Judge.{judged}
use Rattle.frame.specs.declared.CallView.{CallView}
use Rattle.frame.specs.declared.Front.TheVariants.{Whole, Long, Short}
use Rattle.frame.specs.Frame.{opening_size, opening_region, front_of}
use Rattle.framed.specs.Framed.{call_in}
use Rattle.framed.proofs.Laws.{opening_waits as heard_waits, opening_answered as heard_answered, call_judged, call_too_long, call_waits as heard_short}
use Rattle.run.specs.declared.Stage.{Stage}
use Rattle.run.specs.declared.Stage.TheVariants.{Opening, Calls, Over}
use Rattle.run.specs.declared.State.{State}
use Rattle.run.specs.declared.Fed.{Fed}
use Rattle.run.specs.declared.Said.TheVariants.{Region, Cut, End}
use Rattle.run.specs.Views.{waits, stopped, opened, opens, call_said, hears, marked, opening_answer, call_answer, memory_fed, fed_opening, fed_call, opening_called, fed_at, fed, opening_fed_at, opening_fed, frame_fed_at, frame_fed}

-- what feeding a piece comes to: the result and both memories afterwards
pub record FedAs (s : State) (opening frame piece : List ℕ) (r : Fed) (opening' frame' : List ℕ) : Type 0 where
  pub result : fed s opening frame piece ≡ r
  pub opening_is : opening_fed s opening frame piece ≡ opening'
  pub frame_is : frame_fed s frame piece ≡ frame'

-- ---- the library's tests on an answer are the definition's

pub is_accepted : (a : Answer) → is_err a ≡ false → accepts a ≡ true
is_accepted (Ok _) is = refl
is_accepted (Err r) is = sym is

pub is_refused : (a : Answer) → is_err a ≡ true → accepts a ≡ false
is_refused (Ok _) is = sym is
is_refused (Err r) is = refl

pub counted : (a : Answer) (is_so : Bool) (one : ℕ) → is_so ≡ is_ok a → one ≡ bool_byte is_so → one ≡ cond (accepts a) 1 0
counted (Ok _) is_so one is e = e ∙ ap bool_byte is
counted (Err r) is_so one is e = e ∙ ap bool_byte is

module _ (s : State) where
  pub marked_opening : s.stage ≡ Opening → marked s ≡ stopped s 0 Cut
  unfolding marked
  marked_opening at = rw at

  pub marked_between : s.stage ≡ Calls → s.got ≡ 0 → marked s ≡ stopped s 0 (End s.accepted)
  unfolding marked
  marked_between at none = rw (at, eq-eqb _ _ none)

  pub marked_inside : s.stage ≡ Calls → (s.got ≡ 0 → ⊥) → marked s ≡ stopped s 0 Cut
  unfolding marked
  marked_inside at some = rw (at, ne_eqb _ _ some)

  pub marked_over : s.stage ≡ Over → marked s ≡ stopped s 0 (End s.accepted)
  unfolding marked
  marked_over at = rw at

  module _ (used region : ℕ) (a : Answer) where
    pub opened_accepted : accepts a ≡ true → opened s used region a ≡ opens s used region a
    unfolding opened
    opened_accepted yes' = rw yes'

    pub opened_refused : accepts a ≡ false → opened s used region a ≡ stopped s used (Region a)
    unfolding opened
    opened_refused no' = rw no'

  module _ (used : ℕ) (there : List ℕ) where
    pub opening_waits : length there < opening_size there → opening_answer s used there ≡ waits s used (length there)
    unfolding opening_answer
    opening_waits short = ap (hears s used (length there)) (heard_waits there short)

    pub opening_answered : opening_size there ≤ length there → opening_answer s used there ≡ opened s used (number_at 2 there 0) (creation (opening_region there))
    unfolding opening_answer
    opening_answered all = ap (hears s used (length there)) (heard_answered there all)

    module _ (region : List ℕ) where
      pub call_answered : (c : CallView) → front_of there ≡ Whole c → call_answer s used region there ≡ call_said s used (judged region (call_in there c))
      unfolding call_answer
      call_answered c front = ap (hears s used (length there)) (call_judged there region c front)

      pub call_stops : front_of there ≡ Long → call_answer s used region there ≡ stopped s used Cut
      unfolding call_answer
      call_stops front = ap (hears s used (length there)) (call_too_long there region front)

      pub call_waits : front_of there ≡ Short → call_answer s used region there ≡ waits s used (length there)
      unfolding call_answer
      call_waits front = ap (hears s used (length there)) (heard_short there region front)

module _ (s : State) (opening frame piece : List ℕ) where
  -- what is coming decides
  fed_at_lem : (stage : Stage) → s.stage ≡ stage
      → FedAs s opening frame piece (fed_at stage s opening frame piece) (opening_fed_at stage s opening frame piece) (frame_fed_at stage s frame piece)
  unfolding fed opening_fed frame_fed
  fed_at_lem stage at =
      record {
        result = ap (λ (t : Stage). fed_at t s opening frame piece) at;
        opening_is = ap (λ (t : Stage). opening_fed_at t s opening frame piece) at;
        frame_is = ap (λ (t : Stage). frame_fed_at t s frame piece) at;
      }

  pub at_opening : s.stage ≡ Opening → FedAs s opening frame piece (fed_opening s opening piece) (memory_fed Opening s.got opening piece) frame
  at_opening at = fed_at_lem Opening at

  pub at_calls : s.stage ≡ Calls
      → FedAs s opening frame piece (fed_call s opening frame piece) (opening_called s opening frame piece) (memory_fed Calls s.got frame piece)
  at_calls at = fed_at_lem Calls at

  pub at_over : s.stage ≡ Over → FedAs s opening frame piece (stopped s 0 (End s.accepted)) opening frame
  at_over at = fed_at_lem Over at
