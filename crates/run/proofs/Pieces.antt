-- What a piece adds to bytes at hand that are not whole: all of it, where they are not whole then either, or just as much as makes them whole.
-- Assumes nothing.
use Prim.Native.Nat.{ℕ, ◌+◌, ◌-◌, ◌<◌, ◌≤◌, min}
use mathlib.Core.Path.{◌≡◌, sym, ap, ◌∙◌}
use mathlib.Core.List.{List, ◌++◌, append_assoc}
use mathlib.Core.Logic.{⊎_elim}
use native.Mathlib.Nat.{le_refl}
use native.Mathlib.Omega.{arith}
use lib.ListN.{length, take, drop, length-append, length-take, take-append-drop}
use lib.Seq.{length-take-le, take_all, take-append_seam}
use Rattle.frame.proofs.Theorems.{le_or_lt}
use Rattle.run.specs.declared.Stage.{Stage}
use Rattle.run.specs.Views.{wanted_of, taken_of, at_hand, memory_fed}
use Rattle.run.proofs.Gathering.{head_of, wanted_short, wanted_before_more, head_first, clamped}

-- the size that more bytes tell is above what is there, where what is there is not whole
still_short : (stage : Stage) (there piece : List ℕ) → length there < wanted_of stage there → length there < wanted_of stage (there ++ piece)
still_short stage there piece h =
    ⊎_elim
    (λ head. rw (wanted_before_more stage there piece head) h)
    (λ less. let first = head_first stage (there ++ piece) in omega arith)
    (le_or_lt (head_of stage) (length there))

-- ---- numbers

takes_all : (size there many : ℕ) → there + many < size → min (size - there) many ≡ many
takes_all size there many h = omega arith

takes_some : (size there many : ℕ) → there < size → size ≤ there + many → (there + min (size - there) many ≡ size) × (min (size - there) many ≤ many)
takes_some size there many l h = (omega arith, omega arith)

room_left : (size there many : ℕ) → min (size - there) many < many → size ≤ there + many
room_left size there many h = omega arith

not_less : (size there many : ℕ) → min (size - there) many < many → there + min (size - there) many < size → ⊥
not_less size there many h l = omega arith

module _ (stage : Stage) (there piece : List ℕ) where
  -- how many bytes of the piece are taken, what is at hand then, and what is left of the piece
  abbrev pub taken : ℕ
  taken = taken_of stage there piece

  abbrev pub at_hand_lem : List ℕ
  at_hand_lem = there ++ take taken piece

  abbrev pub left : List ℕ
  left = drop taken piece

  pub joined : at_hand_lem ++ left ≡ there ++ piece
  joined = append_assoc there (take taken piece) left ∙ ap (λ (s : List ℕ). there ++ s) (take-append-drop taken piece)

  pub joined_before : (rest : List ℕ) → at_hand_lem ++ (left ++ rest) ≡ there ++ (piece ++ rest)
  joined_before rest = sym (append_assoc at_hand_lem left rest) ∙ ap (λ (s : List ℕ). s ++ rest) joined ∙ append_assoc there piece rest

  pub data Goes : Type 0 where
    on : length at_hand_lem < wanted_of stage at_hand_lem → Goes
    whole : length at_hand_lem ≡ wanted_of stage at_hand_lem → Goes

  goes_on : length (there ++ piece) < wanted_of stage (there ++ piece) → Goes
  unfolding taken_of
  goes_on h =
      let all : taken ≡ length piece = takes_all (wanted_of stage (there ++ piece)) (length there) (length piece) (rw (← length-append there piece) h) in
      on (rw (take_all taken piece (rw all (le_refl _))) h)

  gets_whole : length there < wanted_of stage there → wanted_of stage (there ++ piece) ≤ length (there ++ piece) → length at_hand_lem ≡ wanted_of stage at_hand_lem
  unfolding taken_of
  gets_whole short h =
      let size = wanted_of stage (there ++ piece) in
      let more = still_short stage there piece short in
      let (reaches, few) = takes_some size (length there) (length piece) more (rw length-append at h) in
      let long : length at_hand_lem ≡ size = length-append there (take taken piece) ∙ rw (length-take-le taken piece few) reaches in
      let head : head_of stage ≤ length at_hand_lem = rw long (head_first stage (there ++ piece)) in
      let told : wanted_of stage at_hand_lem ≡ size = sym (wanted_before_more stage at_hand_lem left head) ∙ ap (wanted_of stage) joined in
      long ∙ sym told

  -- what is not whole then has taken all of the piece, whatever was there
  pub all-taken : length at_hand_lem < wanted_of stage at_hand_lem → taken ≡ length piece
  unfolding taken_of
  all-taken less =
      let size = wanted_of stage (there ++ piece) in
      ⊎_elim
      (λ most. omega arith)
      (λ some.
      let enough : size ≤ length there + length piece = room_left size (length there) (length piece) some in
      let long : length at_hand_lem ≡ length there + taken = length-append there (take taken piece) ∙ rw (length-take-le taken piece (omega arith)) in
      absurd
      (⊎_elim
      (λ head.
      let same = wanted_before_more stage there (take taken piece) head in
      let told = wanted_before_more stage there piece head in
      not_less size (length there) (length piece) some (rw long at (rw (same, ← told) at less)))
      (λ short.
      let told = wanted_short stage there short in
      let whole_now = gets_whole (rw told short) (rw length-append enough) in
      omega arith)
      (le_or_lt (head_of stage) (length there))))
      (le_or_lt (length piece) taken)

  pub goes : length there < wanted_of stage there → Goes
  goes short = ⊎_elim (λ enough. whole (gets_whole short enough)) goes_on (le_or_lt (wanted_of stage (there ++ piece)) (length (there ++ piece)))

-- ---- what lies in a memory after a piece

module _ (stage : Stage) (got : ℕ) (memory piece : List ℕ) {there : List ℕ} (is : take got memory ≡ there) where
  pub takes_of : taken_of stage (take got memory) piece ≡ taken stage there piece
  takes_of = rw is

  pub there_then : at_hand stage got memory piece ≡ at_hand_lem stage there piece
  unfolding at_hand
  there_then = rw is

  -- what is at hand lies at the front
  pub at_the_front : memory_fed stage got memory piece ≡ at_hand_lem stage there piece ++ drop (length there + taken stage there piece) memory
  unfolding memory_fed
  at_the_front =
      let same : take (length (take got memory)) memory ≡ there = ap (λ (n : ℕ). take n memory) (length-take got memory) ∙ clamped got memory ∙ is in
      rw (same, is)

  pub front-taken : take (length (at_hand_lem stage there piece)) (memory_fed stage got memory piece) ≡ at_hand_lem stage there piece
  front-taken = rw at_the_front (take-append_seam _ _)
