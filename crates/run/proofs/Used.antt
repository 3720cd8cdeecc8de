-- What is used of a piece is never more than the piece, and all of it where more is needed; the end of the input uses nothing.
-- Assumes nothing.
use Prim.Native.Nat.{ℕ, ◌<◌, ◌≤◌}
use mathlib.Core.Path.{◌≡◌, refl}
use mathlib.Core.Bool.{Bool, true, false}
use mathlib.Core.List.{List}
use mathlib.Core.Logic.{⊎_elim}
use native.Mathlib.Omega.{arith}
use lib.Dec.{eqb}
use lib.ListN.{length, take}
use Rattle.answer.specs.Numbers.{Answer, accepts}
use Rattle.frame.specs.Frame.{opening_size}
use Rattle.frame.specs.Views.{call_size}
use Rattle.frame.proofs.Theorems.{le_or_lt, Sized, short, long, past, there as all_there, sized}
use Rattle.framed.specs.declared.Heard.{Heard}
use Rattle.framed.specs.declared.Heard.TheVariants.{Waiting, TooLong, Opened, Judged}
use Rattle.framed.specs.Views.{opening_heard, call_heard}
use Rattle.framed.proofs.Laws.{opening_answered, call_judged, call_too_long}
use Rattle.run.specs.declared.Stage.{Stage}
use Rattle.run.specs.declared.Stage.TheVariants.{Opening, Calls, Over}
use Rattle.run.specs.declared.State.{State}
use Rattle.run.specs.declared.Said.TheVariants.{More, Region}
use Rattle.run.specs.Views.{opened, call_said, hears, marked, taken_of, opening_answer, call_answer, fed_opening, fed_call, fed_at, fed}
use Rattle.run.proofs.Laws.{marked_opening, marked_over, opened_accepted, opened_refused}
use Rattle.run.proofs.Pieces.{all-taken, there_then}

-- whatever is heard, so many bytes are used as were taken
module _ (s : State) (used got : ℕ) where
  opened_uses : (region : ℕ) (a : Answer) (accepted : Bool) → accepts a ≡ accepted → (opened s used region a).used ≡ used
  opened_uses region a true is = rw (opened_accepted s used region a is)
  opened_uses region a false is = rw (opened_refused s used region a is)

  hears_uses : (heard : Heard) → (hears s used got heard).used ≡ used
  unfolding call_said
  hears_uses Waiting = refl
  hears_uses TooLong = refl
  hears_uses (Opened region a) = opened_uses region a _ refl
  hears_uses (Judged a) = refl

used_at : (stage : Stage) (s : State) (opening frame piece : List ℕ) → (fed_at stage s opening frame piece).used ≤ length piece
unfolding taken_of opening_answer call_answer fed_opening fed_call
used_at Opening s opening frame piece = rw (hears_uses s _ _ _) (omega arith)
used_at Calls s opening frame piece = rw (hears_uses s _ _ _) (omega arith)
used_at Over s opening frame piece = omega arith

pub used_within : (s : State) (opening frame piece : List ℕ) → (fed s opening frame piece).used ≤ length piece
unfolding fed
used_within s opening frame piece = used_at s.stage s opening frame piece

-- ---- more is needed only where all of a piece was used

module _ (s : State) (used got : ℕ) where
  opened_says : (region : ℕ) (a : Answer) (accepted : Bool) → accepts a ≡ accepted → (opened s used region a).said ≡ Region a
  opened_says region a true is = rw (opened_accepted s used region a is)
  opened_says region a false is = rw (opened_refused s used region a is)

  hears_more : (heard : Heard) → (hears s used got heard).said ≡ More → heard ≡ Waiting
  unfolding call_said
  hears_more Waiting more = refl
  hears_more TooLong more = cc
  hears_more (Opened region a) more = let says = opened_says region a _ refl in cc
  hears_more (Judged a) more = cc

module _ (there : List ℕ) where
  opening_more : opening_heard there ≡ Waiting → length there < opening_size there
  opening_more waits = ⊎_elim (λ all. absurd (never all)) (λ less. less) (le_or_lt (opening_size there) (length there))
    where
      never : opening_size there ≤ length there → ⊥
      never all = let is = opening_answered there all in let z : ◌≡◌ {A = ℕ} 0 1 = cc in omega arith

  call_more : (region : List ℕ) → call_heard region there ≡ Waiting → length there < call_size there
  call_more region waits = go (sized there)
    where
      go : Sized there → length there < call_size there
      go (short less size _) = omega arith
      go (long _ _ _ front) = let is = call_too_long there region front in absurd (let z : ◌≡◌ {A = ℕ} 0 1 = cc in omega arith)
      go (past _ _ _ less _) = less
      go (all_there _ _ _ _ front) = let is = call_judged there region _ front in absurd (let z : ◌≡◌ {A = ℕ} 0 1 = cc in omega arith)

more_at : (stage : Stage) (s : State) (opening frame piece : List ℕ) → (fed_at stage s opening frame piece).said ≡ More
    → (fed_at stage s opening frame piece).used ≡ length piece
unfolding opening_answer call_answer fed_opening fed_call
more_at Opening s opening frame piece more =
    rw (hears_uses s _ _ _)
    (all-taken Opening (take s.got opening) piece (rw (there_then Opening s.got opening piece refl) at (opening_more _ (hears_more s _ _ _ more))))
more_at Calls s opening frame piece more =
    rw (hears_uses s _ _ _)
    (all-taken Calls (take s.got frame) piece (rw (there_then Calls s.got frame piece refl) at (call_more _ _ (hears_more s _ _ _ more))))
more_at Over s opening frame piece more = absurd (let z : ◌≡◌ {A = ℕ} 0 1 = cc in omega arith)

-- so who is told that more is needed may go on with the next piece
pub where_more_is_needed_all_was_used : (s : State) (opening frame piece : List ℕ) → (fed s opening frame piece).said ≡ More
    → (fed s opening frame piece).used ≡ length piece
unfolding fed
where_more_is_needed_all_was_used s opening frame piece more = more_at s.stage s opening frame piece more

module _ (s : State) where
  between_uses : (none : Bool) → s.stage ≡ Calls → eqb s.got 0 ≡ none → (marked s).used ≡ 0
  unfolding marked
  between_uses true at is = rw (at, is)
  between_uses false at is = rw (at, is)

  marked_at : (stage : Stage) → s.stage ≡ stage → (marked s).used ≡ 0
  marked_at Opening at = rw (marked_opening s at)
  marked_at Calls at = between_uses _ at refl
  marked_at Over at = rw (marked_over s at)

  pub end_uses_nothing : (marked s).used ≡ 0
  end_uses_nothing = marked_at _ refl
