-- Bytes of a piece are taken in two steps: up to the end of a head, which tells the size, and up to that size. Together they are as many as the
-- size that the piece tells leaves room for.
-- Assumes nothing.
use Prim.Native.Nat.{ℕ, ◌+◌, ◌-◌, ◌<◌, ◌≤◌, min}
use mathlib.Core.Path.{◌≡◌, refl, sym, ap, ap₂, ◌∙◌}
use mathlib.Core.List.{List, ◌++◌, append_assoc}
use mathlib.Core.Logic.{⊎_elim}
use native.Mathlib.Nat.{le_refl}
use native.Mathlib.Omega.{arith}
use lib.ListN.{length, take, drop, length-append, length-take, length-drop, take-append-drop, drop_of_length-le}
use lib.Seq.{paste, length-take-le, take_all, take-length, drop-length, take-add, drop-drop, take-paste, drop-paste}
use Rattle.number.specs.Number.{Bytes}
use Rattle.frame.specs.Frame.{region_length_size, call_head}
use Rattle.frame.proofs.Frames.{size_short}
use Rattle.frame.proofs.Theorems.{le_or_lt, opening_size_short, opening_size_at_least, opening_size_at_most, opening_size_before_more_input, call_size_at_least, call_size_at_most, call_size_before_more_input}
use Rattle.framed.specs.declared.Heard.{Heard}
use Rattle.framed.specs.Views.{opening_heard, call_heard, region_heard}
use Rattle.run.specs.declared.Stage.{Stage}
use Rattle.run.specs.declared.Stage.TheVariants.{Opening, Calls, Over}
use Rattle.run.specs.declared.State.{State}
use Rattle.run.specs.Views.{hears, wanted_of, most_of, taken_of, opening_answer, call_answer, at_hand, memory_fed, region_in, fed_opening, fed_call, opening_called}

-- the bytes that tell the size of what is coming
abbrev pub head_of : Stage → ℕ
head_of Opening = region_length_size
head_of Calls = call_head
head_of Over = 0

pub wanted_short : (stage : Stage) (s : List ℕ) → length s < head_of stage → wanted_of stage s ≡ head_of stage
wanted_short Opening s h = opening_size_short s h
wanted_short Calls s h = size_short s h
wanted_short Over s h = refl

pub wanted_before_more : (stage : Stage) (s t : List ℕ) → head_of stage ≤ length s → wanted_of stage (s ++ t) ≡ wanted_of stage s
wanted_before_more Opening s t h = opening_size_before_more_input s t h
wanted_before_more Calls s t h = call_size_before_more_input s t h
wanted_before_more Over s t h = refl

pub head_first : (stage : Stage) (s : List ℕ) → head_of stage ≤ wanted_of stage s
head_first Opening s = opening_size_at_least s
head_first Calls s = call_size_at_least s
head_first Over s = omega arith

pub wanted_at_most : (stage : Stage) (s : List ℕ) → Bytes s → wanted_of stage s ≤ most_of stage
wanted_at_most Opening s h = opening_size_at_most s h
wanted_at_most Calls s h = call_size_at_most s
wanted_at_most Over s h = omega arith

-- a second step adds nothing where the first knew the size
size_known : (size got first second many : ℕ) → first ≡ min (size - got) many → second ≡ min (size - (got + first)) (many - first)
    → first + second ≡ min (size - got) many
size_known size got first second many p q = omega arith

-- and goes on from a whole head
as_many_more : (head size got first : ℕ) → got + first ≡ head → head ≤ size → first + (size - head) ≡ size - got
as_many_more head size got first e m = omega arith

min_after : (first more many : ℕ) → first ≤ many → first + min more (many - first) ≡ min (first + more) many
min_after first more many h = omega arith

reached_by : (head got first many : ℕ) → got < head → head - got ≤ many → first ≡ min (head - got) many → (got + first ≡ head) × (first ≤ many)
reached_by head got first many l h p = (omega arith, omega arith)

head_reached : (head size got first second many : ℕ) → head ≤ size → (got + first ≡ head) × (first ≤ many)
    → second ≡ min (size - (got + first)) (many - first) → first + second ≡ min (size - got) many
head_reached head size got first second many m by q =
    rw (q, by.0, min_after first (size - head) many by.1, as_many_more head size got first by.0 m)

-- and has nothing left where the piece ends inside the head
piece_ends : (head got first second rest many : ℕ) → many < head - got → first ≡ min (head - got) many → second ≡ min rest (many - first)
    → first + second ≡ min (head - got) many
piece_ends head got first second rest many h p q = omega arith

inside : (head got many : ℕ) → many < head - got → got + many < head
inside head got many h = omega arith

module _ (stage : Stage) (there piece : List ℕ) where
  -- what is there after the first step, and the rest, are all
  parted : (n : ℕ) → (there ++ take n piece) ++ drop n piece ≡ there ++ piece
  parted n = append_assoc there (take n piece) (drop n piece) ∙ ap (λ (s : List ℕ). there ++ s) (take-append-drop n piece)

  pub in_two_steps : (got first second : ℕ) → length there ≡ got → first ≡ min (wanted_of stage there - got) (length piece)
      → second ≡ min (wanted_of stage (there ++ take first piece) - (got + first)) (length (drop first piece))
      → first + second ≡ taken_of stage there piece
  unfolding taken_of
  in_two_steps got first second e p q =
      let q' : second ≡ min (wanted_of stage (there ++ take first piece) - (got + first)) (length piece - first) = rw length-drop at q in
      ⊎_elim
      (λ head.
      let a = wanted_before_more stage there (take first piece) head in
      let b = wanted_before_more stage there piece head in
      rw (b, e) (size_known (wanted_of stage there) got first second (length piece) p (rw a at q')))
      (λ less.
      let p' : first ≡ min (head_of stage - got) (length piece) = rw (wanted_short stage there less) at p in
      ⊎_elim
      (λ enough.
      let by = reached_by (head_of stage) got first (length piece) (omega arith) enough p' in
      let size : length (there ++ take first piece) ≡ head_of stage =
      length-append there (take first piece) ∙ rw (e, length-take-le first piece by.1) by.0 in
      let b : wanted_of stage (there ++ piece) ≡ wanted_of stage (there ++ take first piece) =
      ap (wanted_of stage) (sym (parted first)) ∙ wanted_before_more stage (there ++ take first piece) (drop first piece) (rw size (le_refl _)) in
      rw (b, e) (head_reached (head_of stage) (wanted_of stage (there ++ take first piece)) got first second (length piece) (head_first stage _) by q'))
      (λ ends.
      let less' : length (there ++ piece) < head_of stage = rw (length-append there piece, e) (inside (head_of stage) got (length piece) ends) in
      rw (wanted_short stage (there ++ piece) less', e) (piece_ends (head_of stage) got first second _ (length piece) ends p' q'))
      (le_or_lt (head_of stage - got) (length piece)))
      (le_or_lt (head_of stage) (length there))

-- and a copy in two steps is one copy
pub pasted_twice : (memory piece : List ℕ) (at first second : ℕ) → at ≤ length memory → first ≤ length piece
    → paste (paste memory at piece first) (at + first) (drop first piece) second ≡ paste memory at piece (first + second)
pasted_twice memory piece at first second h k =
    let once = paste memory at piece first in
    let sum : at + first + second ≡ at + (first + second) = omega arith in
    let front : take (at + first) once ≡ take at memory ++ take first piece = take-paste memory at piece first h k in
    let back : drop (at + first + second) once ≡ drop (at + (first + second)) memory =
    sym (drop-drop second (at + first) once)
    ∙ ap (drop second) (drop-paste memory at piece first h k)
    ∙ drop-drop second (at + first) memory
    ∙ ap (λ (n : ℕ). drop n memory) sum in
    rw (front, back, take-add first second piece) (simp append_assoc)

-- the part of a slice from a place to its end
pub tail_part : (s : List ℕ) (n : ℕ) → take (length s - n) (drop n s) ≡ drop n s
tail_part s n = take_all (length s - n) (drop n s) (rw (length-drop n s) (le_refl _))

-- both steps, with what each is told and leaves
pub gathered : (stage : Stage) (memory piece once twice rest : List ℕ) (got head first size second : ℕ) → got ≤ length memory
    → head ≡ wanted_of stage (take got memory) → first ≡ min (head - got) (length piece) → once ≡ paste memory got piece first
    → size ≡ wanted_of stage (take (got + first) once) → rest ≡ drop first piece → second ≡ min (size - (got + first)) (length rest)
    → twice ≡ paste once (got + first) rest second
    → (first + second ≡ taken_of stage (take got memory) piece) × (twice ≡ paste memory got piece (first + second))
gathered stage memory piece once twice rest got head first size second h a b c d e f g =
    let few : first ≤ length piece = omega arith in
    let there : take (got + first) once ≡ take got memory ++ take first piece = rw c (take-paste memory got piece first h few) in (
      in_two_steps stage (take got memory) piece got first second (length-take-le got memory h) (rw a at b) (rw (d, there, e) at f),
      g ∙ rw (c, e) (pasted_twice memory piece got first second h few),
    )

-- a place past the end does what the end does
past_the_end : (f : ℕ → List ℕ) (k : ℕ) → ((n : ℕ) → k ≤ n → f n ≡ f k) → (n : ℕ) → f (min n k) ≡ f n
past_the_end f k same n =
    ⊎_elim
    (λ few.
    let e : min n k ≡ n = omega arith in
    rw e)
    (λ many.
    let e : min n k ≡ k = omega arith in
    let over : k ≤ n = omega arith in
    rw e (sym (same n over)))
    (le_or_lt n k)

pub clamped : (n : ℕ) (s : List ℕ) → take (min n (length s)) s ≡ take n s
clamped n s = past_the_end (λ (m : ℕ). take m s) (length s) (λ m h. take_all m s h ∙ sym (take-length s)) n

clamped_drop : (n : ℕ) (s : List ℕ) → drop (min n (length s)) s ≡ drop n s
clamped_drop n s = past_the_end (λ (m : ℕ). drop m s) (length s) (λ m h. drop_of_length-le s {i = m} h ∙ sym (drop-length s)) n

-- what is at hand after a piece, where the state's count of bytes may be anything
pub record Handed (stage : Stage) (n used count : ℕ) (memory piece after there : List ℕ) : Type 0 where
  pub takes : used ≡ taken_of stage (take n memory) piece
  pub there_is : there ≡ at_hand stage n memory piece
  pub memory_is : after ≡ memory_fed stage n memory piece
  pub long : length there ≡ count

pub handed : (stage : Stage) (n got used : ℕ) (memory piece after : List ℕ) → got ≡ min n (length memory)
    → used ≡ taken_of stage (take got memory) piece → after ≡ paste memory got piece used → Handed stage n used (got + used) memory piece after (take (got + used) after)
unfolding taken_of at_hand memory_fed
handed stage n got used memory piece after e t p =
    let same : take got memory ≡ take n memory = rw (e, clamped n memory) in
    let size : got ≡ length (take n memory) = e ∙ sym (length-take n memory) in
    let t' : used ≡ taken_of stage (take n memory) piece = rw same at t in
    let few : used ≤ length piece = omega arith in
    let there : take (got + used) after ≡ take got memory ++ take used piece = rw p (take-paste memory got piece used (omega arith) few) in
    record {
      takes = t';
      there_is = there ∙ rw (same, t');
      memory_is = p ∙ rw (size, t');
      long = ap length there ∙ length-append (take got memory) (take used piece) ∙ rw (length-take-le got memory (omega arith), length-take-le used piece few);
    }

-- what is heard of the bytes at hand is the answer to them
module _ (s : State) (used n : ℕ) (there : List ℕ) (heard : Heard) (size : length there ≡ n) where
  pub heard_opening : heard ≡ opening_heard there → hears s used n heard ≡ opening_answer s used there
  unfolding opening_answer
  heard_opening is = ap₂ (hears s used) (sym size) is

  pub heard_call : (region : List ℕ) → heard ≡ call_heard region there → hears s used n heard ≡ call_answer s used region there
  unfolding call_answer
  heard_call region is = ap₂ (hears s used) (sym size) is

module _ (s : State) (used : ℕ) where
  pub fed_opening_lem : {count : ℕ} {opening piece after there : List ℕ} → Handed Opening s.got used count opening piece after there
      → opening_answer s used there ≡ fed_opening s opening piece
  unfolding fed_opening
  fed_opening_lem by = ap₂ (opening_answer s) by.takes by.there_is

  module _ {count : ℕ} {frame piece after there : List ℕ} (region opening : List ℕ) (by : Handed Calls s.got used count frame piece after there)
      (is : region ≡ region_in s opening) where
    pub fed_call_lem : call_answer s used region there ≡ fed_call s opening frame piece
    unfolding fed_call
    fed_call_lem = rw is (ap₂ (λ (n : ℕ) (b : List ℕ). call_answer s n (region_in s opening) b) by.takes by.there_is)

    pub region_called : region_heard region there ≡ region_heard (region_in s opening) (at_hand Calls s.got frame piece)
    region_called = rw (is, by.there_is)

-- the part of the opening that is lent is the region, and what follows it stays, where the state's length of the region may be anything
module _ (s : State) (opening : List ℕ) (k : ℕ) (e : k ≡ min s.region (length opening - region_length_size)) where
  behind : List ℕ
  behind = drop region_length_size opening

  as_long : region_length_size + k - region_length_size ≡ min s.region (length behind)
  unfolding behind
  as_long = rw (length-drop region_length_size opening) (omega arith)

  pub region_part : take (region_length_size + k - region_length_size) (drop region_length_size opening) ≡ region_in s opening
  unfolding behind
  region_part = rw as_long (clamped s.region behind)

  pub rest_stays : (frame piece region : List ℕ) → region ≡ region_heard (region_in s opening) (at_hand Calls s.got frame piece)
      → take region_length_size opening ++ (region ++ drop (region_length_size + k - region_length_size) (drop region_length_size opening))
      ≡ opening_called s opening frame piece
  unfolding behind opening_called
  rest_stays frame piece region is = rw (is, as_long, clamped_drop s.region behind)
