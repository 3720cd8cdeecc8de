-- Every input can be fed to its end: fed all that is left each time, a run says a line or needs more, and then nothing is left but the end mark.
-- Assumes nothing.
use Prim.Native.Nat.{ℕ, zero, suc, ◌*◌, ◌^◌, ◌<◌, ◌≤◌}
use mathlib.Core.Path.{◌≡◌, refl, sym, ap, subst, ◌∙◌}
use mathlib.Core.Bool.{Bool, true, false}
use mathlib.Core.List.{List, [], ◌∷◌, ◌++◌, append-nil}
use mathlib.Core.Logic.{◌⊎◌, inl, inr, ⊎_elim}
use native.Mathlib.Nat.{le_refl}
use native.Mathlib.Omega.{arith}
use lib.Dec.{eqb}
use lib.ListN.{length, drop}
use lib.Seq.{drop-length}
use Rattle.number.specs.Number.{Bytes}
use Rattle.frame.specs.Frame.{call_head}
use Rattle.run.specs.declared.Stage.{Stage}
use Rattle.run.specs.declared.Stage.TheVariants.{Opening, Calls, Over}
use Rattle.run.specs.declared.State.{State}
use Rattle.run.specs.declared.Said.{Said}
use Rattle.run.specs.declared.Said.TheVariants.{More, Region, Call, Cut, End}
use Rattle.run.specs.Views.{marked, fed}
use Rattle.run.proofs.Laws.{marked_opening, marked_over}
use Rattle.run.proofs.Used.{where_more_is_needed_all_was_used}
use Rattle.replayed.specs.Replay.{Line, replay_of}
use Rattle.replayed.specs.Feeding.{line_of, is_end, Held, held_at_first, held_after, held_marked, Says, feeds, feeds_last, marks, marks_last}
use Rattle.replayed.proofs.Coming.{Coming}
use Rattle.replayed.proofs.Theorems.{Turn, goes, ends, feed_turn, mark_turn, all_coming}

-- what is said before the end is that more is needed, or one line
more_or_line : (said : Said) → is_end said ≡ false → (said ≡ More) ⊎ ((line : Line) × (line_of said ≡ line ∷ []))
more_or_line More e = inl refl
more_or_line (Region a) e = inr (_, refl)
more_or_line (Call k a) e = inr (_, refl)
more_or_line Cut e = inr (_, refl)
more_or_line (End n) e = absurd (let z : ◌≡◌ {A = ℕ} 0 1 = cc in omega arith)

-- the end mark never says that more is needed
module _ (s : State) where
  between_says : (none : Bool) → s.stage ≡ Calls → eqb s.got 0 ≡ none → (marked s).said ≡ More → ⊥
  unfolding marked
  between_says true at is more = let z : ◌≡◌ {A = ℕ} 0 1 = cc in omega arith
  between_says false at is more = let z : ◌≡◌ {A = ℕ} 0 1 = cc in omega arith

  mark_says : (stage : Stage) → s.stage ≡ stage → (marked s).said ≡ More → ⊥
  mark_says Opening at more = let is = marked_opening s at in let z : ◌≡◌ {A = ℕ} 0 1 = cc in omega arith
  mark_says Calls at more = between_says _ at refl more
  mark_says Over at more = let is = marked_over s at in let z : ◌≡◌ {A = ℕ} 0 1 = cc in omega arith

-- a run that is fed to its end
abbrev Done : Held → List ℕ → List Line → Type 0
Done h left lines = (last : Held) × Says h left lines last

fewer : (lines next : List Line) (line : Line) → lines ≡ line ∷ next → length next < length lines
fewer lines next line e = rw e (le_refl _)

module _ (region : List ℕ) (n : ℕ) (further : (h : Held) (left : List ℕ) (lines : List Line) → length lines < n → Coming h left lines region → Done h left lines) where
  by_mark : (h : Held) (lines : List Line) → length lines ≤ n → Coming h [] lines region → Done h [] lines
  by_mark h lines few coming = go (mark_turn h coming)
    where
      go : Turn [] lines region (marked h.state) h.opening h.frame → Done h [] lines
      go (goes step) =
          ⊎_elim
          (λ more. absurd (mark_says h.state _ refl more))
          (λ (line, is).
          let said : lines ≡ line ∷ step.next = step.said_is ∙ ap (λ (l : List Line). l ++ step.next) is in
          let (last, says) = further (held_marked h) [] step.next (omega (arith, fewer lines step.next line said)) step.coming in
          (last, subst (λ (l : List Line). Says h [] l last) (sym step.said_is) (marks h step.next last step.goes_on says)))
          (more_or_line _ step.goes_on)
      go (ends off e f) = (held_marked h, subst (λ (l : List Line). Says h [] l (held_marked h)) (sym e) (marks_last h off))

  by_feed : (h : Held) (left : List ℕ) (lines : List Line) → length lines ≤ n → Coming h left lines region → Done h left lines
  by_feed h left lines few coming = go (feed_turn h left [] (subst (λ (l : List ℕ). Coming h l lines region) (sym (append-nil left)) coming))
    where
      whole : {lines' : List Line} {last : Held} → lines ≡ lines' → Says h (left ++ []) lines' last → Says h left lines last
      whole {lines'} {last} e says = subst (λ (l : List Line). Says h left l last) (sym e) (subst (λ (l : List ℕ). Says h l lines' last) (append-nil left) says)

      go : Turn (drop (fed h.state h.opening h.frame left).used left ++ []) lines region (fed h.state h.opening h.frame left)
          (held_after h left).opening (held_after h left).frame → Done h left lines
      go (goes step) =
          ⊎_elim
          (λ more.
          let none : drop (fed h.state h.opening h.frame left).used left ++ [] ≡ [] =
          append-nil _ ∙ ap (λ (k : ℕ). drop k left) (where_more_is_needed_all_was_used h.state h.opening h.frame left more) ∙ drop-length left in
          let same : lines ≡ step.next = step.said_is ∙ ap (λ (s : Said). line_of s ++ step.next) more in
          let (last, says) = by_mark (held_after h left) step.next (rw (← same) few) (subst (λ (l : List ℕ). Coming (held_after h left) l step.next region) none step.coming) in
          (last, whole step.said_is (feeds h left [] step.next last step.goes_on (subst (λ (l : List ℕ). Says (held_after h left) l step.next last) (sym none) says))))
          (λ (line, is).
          let said : lines ≡ line ∷ step.next = step.said_is ∙ ap (λ (l : List Line). l ++ step.next) is in
          let (last, says) = further (held_after h left) _ step.next (omega (arith, fewer lines step.next line said)) step.coming in
          (last, whole step.said_is (feeds h left [] step.next last step.goes_on says)))
          (more_or_line _ step.goes_on)
      go (ends off e f) = (held_after h left, whole e (feeds_last h left [] off))

can_be_fed : (n : ℕ) (region : List ℕ) (h : Held) (left : List ℕ) (lines : List Line) → length lines ≤ n → Coming h left lines region → Done h left lines
can_be_fed zero region h left lines few coming = by_feed region zero (λ h' left' lines' less c. absurd (omega arith)) h left lines few coming
can_be_fed (suc n) region h left lines few coming =
    by_feed region (suc n) (λ h' left' lines' less c. can_be_fed n region h' left' lines' (omega arith) c) h left lines few coming

-- so every input has a run that is fed it and says its lines
pub every_input_can_be_fed : (input opening frame : List ℕ) → Bytes input → length input < call_head * 2 ^ 64
    → (last : Held) × Says (held_at_first opening frame) input (replay_of input) last
every_input_can_be_fed input opening frame bytes small =
    can_be_fed (length (replay_of input)) _ (held_at_first opening frame) input (replay_of input) (le_refl _) (all_coming input opening frame bytes small)
