-- Fed in any pieces, a run says what the definition says of the whole input, and holds the region that the calls leave.
-- Assumes nothing.
use Prim.Native.Nat.{ℕ, ◌*◌, ◌^◌, ◌<◌}
use mathlib.Core.Path.{◌≡◌, refl, sym, ap, ◌∙◌}
use mathlib.Core.Bool.{true, false}
use mathlib.Core.List.{List, [], ◌∷◌, ◌++◌, append-nil}
use mathlib.Core.Logic.{⊎_elim}
use native.Mathlib.Nat.{eq-zero-or-pos}
use native.Mathlib.Omega.{arith}
use lib.ListN.{length, drop}
use Rattle.number.specs.Number.{Bytes}
use Rattle.frame.specs.declared.Front.TheVariants.{Short}
use Rattle.frame.specs.Frame.{call_head, front_of}
use Rattle.frame.specs.Views.{call_size}
use Rattle.frame.proofs.Theorems.{Sized, short, long, past, there, sized, opening_size_short}
use Rattle.bursar.specs.Run.{ours, after_run}
use Rattle.run.specs.declared.Fed.{Fed}
use Rattle.replayed.specs.Replay.{calls_in, Line, cut_line, end_line, call_lines, replay_of}
use Rattle.run.specs.Views.{marked, fed, opening_fed, frame_fed}
use Rattle.replayed.specs.Feeding.{line_of, is_end, Held, held_at_first, region_held, region_left, Says, feeds, feeds_last, marks, marks_last}
use Rattle.run.proofs.Laws.{marked_opening, marked_between, marked_inside, marked_over, at_opening, at_calls, at_over}
use Rattle.replayed.proofs.Cutting.{calls_none, calls_short}
use Rattle.replayed.proofs.Coming.{lines_of, Coming, opens, judges, over, Step}
use Rattle.replayed.proofs.OpeningStep.{replay_cut, nothing_left, opening_step}
use Rattle.replayed.proofs.CallStep.{call_step}

-- a piece or the end mark is a step, or the last
pub data Turn (left : List ℕ) (lines : List Line) (region : List ℕ) (r : Fed) (opening frame : List ℕ) : Type 0 where
  goes : Step left lines region r opening frame → Turn left lines region r opening frame
  ends : is_end r.said ≡ true → lines ≡ line_of r.said → region ≡ region_held (record { state = r.state; opening = opening; frame = frame })
      → Turn left lines region r opening frame

pub feed_turn : (h : Held) (piece rest : List ℕ) {lines : List Line} {region : List ℕ} → Coming h (piece ++ rest) lines region
    → Turn (drop (fed h.state h.opening h.frame piece).used piece ++ rest) lines region (fed h.state h.opening h.frame piece)
    (opening_fed h.state h.opening h.frame piece) (frame_fed h.state h.frame piece)
feed_turn h piece rest (opens now at e f) =
    let is = at_opening h.state h.opening h.frame piece at.stage_is in
    rw (is.result, is.opening_is, is.frame_is, e, f) (goes (opening_step h piece rest now at))
feed_turn h piece rest (judges now held at e f) =
    let is = at_calls h.state h.opening h.frame piece at.stage_is in
    rw (is.result, is.opening_is, is.frame_is, e, f) (goes (call_step h piece rest now held at))
feed_turn h piece rest (over at e f) =
    let is = at_over h.state h.opening h.frame piece at in
    rw (is.result, is.opening_is, is.frame_is, e, f) (ends refl refl refl)

-- bytes that are not a whole call
not_whole : (s : List ℕ) → length s < call_size s → front_of s ≡ Short
not_whole s less = go (sized s)
  where
    go : Sized s → front_of s ≡ Short
    go (short _ _ front) = front
    go (long head _ size _) = absurd (omega arith)
    go (past _ _ _ _ front) = front
    go (there _ _ _ all _) = absurd (omega arith)

empty : (s : List ℕ) → length s ≡ 0 → s ≡ []
empty [] e = refl
empty (b ∷ s) e = absurd (omega arith)

module _ (held : List ℕ) (calls accepted : ℕ) where
  lines_none : lines_of held calls accepted [] ≡ end_line accepted ∷ []
  unfolding call_lines
  lines_none = rw calls_none

  left_none : after_run ours held (calls_in []).list ≡ held
  unfolding after_run
  left_none = rw calls_none

  module _ (s : List ℕ) (some : 0 < length s) (less : length s < call_size s) where
    lines_inside : lines_of held calls accepted s ≡ cut_line ∷ end_line accepted ∷ []
    unfolding call_lines
    lines_inside = rw (calls_short s some (not_whole s less))

    left_inside : after_run ours held (calls_in s).list ≡ held
    unfolding after_run
    left_inside = rw (calls_short s some (not_whole s less))

pub mark_turn : (h : Held) {lines : List Line} {region : List ℕ} → Coming h [] lines region → Turn [] lines region (marked h.state) h.opening h.frame
mark_turn h {lines} {region} (opens now at e f) =
    rw (marked_opening h.state at.stage_is)
    (goes
    (record {
      goes_on = refl;
      next = end_line h.state.accepted ∷ [];
      said_is = e ∙ rw (append-nil now, at.none_accepted) (replay_cut now at.short);
      coming = over refl refl (f ∙ rw (append-nil now, at.no_region) (nothing_left now at.short));
    }))
mark_turn h {lines} {region} (judges now held at e f) =
    let calls = h.state.calls in
    let accepted = h.state.accepted in
    ⊎_elim
    (λ none.
    let no_bytes = empty now (sym at.got_is ∙ none) in
    rw (marked_between h.state at.stage_is none)
    (ends refl (e ∙ rw no_bytes (lines_none held calls accepted)) (f ∙ rw (no_bytes, at.region_is) (left_none held calls accepted))))
    (λ some.
    let some' : 0 < length now = rw at.got_is at some in
    rw (marked_inside h.state at.stage_is (λ none. omega arith))
    (goes
    (record {
      goes_on = refl;
      next = end_line accepted ∷ [];
      said_is = e ∙ rw (append-nil now) (lines_inside held calls accepted now some' at.short);
      coming = over refl refl (f ∙ rw (append-nil now, at.region_is) (left_inside held calls accepted now some' at.short));
    })))
    (eq-zero-or-pos h.state.got)
mark_turn h (over at e f) = rw (marked_over h.state at) (ends refl e f)

-- ---- the theorems

-- said is what was to be said, and held what was to be held
abbrev Told : List Line → Held → List Line → List ℕ → Type 0
Told said last lines region = (said ≡ lines) × (region_held last ≡ region)

goes_on : {left : List ℕ} {lines : List Line} {region : List ℕ} {r : Fed} {opening frame : List ℕ} (said : List Line) (last : Held)
    → Turn left lines region r opening frame → is_end r.said ≡ false
    → ((next : List Line) → Coming (record { state = r.state; opening = opening; frame = frame }) left next region → Told said last next region)
    → Told (line_of r.said ++ said) last lines region
goes_on {r = r} said last (goes step) _ more =
    let rest = more step.next step.coming in
    (ap (λ (l : List Line). line_of r.said ++ l) rest.0 ∙ sym step.said_is, rest.1)
goes_on said last (ends yes' _ _) no' more = absurd (let z : ◌≡◌ {A = ℕ} 0 1 = cc in omega arith)

is_last : {left : List ℕ} {lines : List Line} {region : List ℕ} {r : Fed} {opening frame : List ℕ} → Turn left lines region r opening frame
    → is_end r.said ≡ true → Told (line_of r.said) (record { state = r.state; opening = opening; frame = frame }) lines region
is_last (goes step) yes' = absurd (let no' = step.goes_on in let z : ◌≡◌ {A = ℕ} 0 1 = cc in omega arith)
is_last (ends _ e f) _ = (sym e, sym f)

told : {h : Held} {left : List ℕ} {said : List Line} {last : Held} → Says h left said last → (lines : List Line) (region : List ℕ)
    → Coming h left lines region → Told said last lines region
told (feeds h piece rest said last on more) lines region coming = goes_on said last (feed_turn h piece rest coming) on (λ next c. told more next region c)
told (feeds_last h piece rest off) lines region coming = is_last (feed_turn h piece rest coming) off
told (marks h said last on more) lines region coming = goes_on said last (mark_turn h coming) on (λ next c. told more next region c)
told (marks_last h off) lines region coming = is_last (mark_turn h coming) off

module _ (input opening frame : List ℕ) (bytes : Bytes input) (small : length input < call_head * 2 ^ 64) where
  pub all_coming : Coming (held_at_first opening frame) input (replay_of input) (region_left input)
  all_coming =
      opens []
      (record {
        stage_is = refl;
        there_is = refl;
        no_calls = refl;
        none_accepted = refl;
        no_region = refl;
        short = rw (opening_size_short [] (omega arith)) (omega arith);
        bytes = bytes;
        small = small;
      })
      refl refl

  module _ (said : List Line) (last : Held) (says : Says (held_at_first opening frame) input said last) where
    -- in whatever pieces an input is fed, what is said are its lines
    pub fed_in_any_pieces_it_says_the_replay : said ≡ replay_of input
    fed_in_any_pieces_it_says_the_replay = (told says (replay_of input) (region_left input) all_coming).0

    -- and the region that is held in the end is the one that its calls leave
    pub the_region_held_is_what_the_calls_leave : region_held last ≡ region_left input
    the_region_held_is_what_the_calls_leave = (told says (replay_of input) (region_left input) all_coming).1
