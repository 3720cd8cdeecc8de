-- The sentence against every judge: ours keeps it, and what each wrong one falls by.
-- Assumes nothing.
use mathlib.Core.Path.{◌≡◌, refl, sym, ap, subst, ◌∙◌}
use mathlib.Core.Bool.{Bool, true, false, cond, ◌&&◌}
use mathlib.Core.List.{List, [], ◌∷◌, ◌++◌}
use mathlib.Core.Option.{Option, none, some}
use Prim.Native.Nat.{ℕ, ◌+◌, ◌<◌, ◌≤◌}
use native.Mathlib.Omega.{arith}
use borrow.Author.Tests.{ne_eqb}
use lib.Dec.{lit≤, eqb}
use lib.ListN.{length}
use Rattle.answer.specs.Numbers.{Answer, number_of, accepts, accepted}
use Rattle.answer.specs.Refusable.{Refusable, Ok, Err}
use Rattle.answer.proofs.Laws.{accepted_is}
use Rattle.number.specs.Number.{floored_difference, highest}
use Rattle.action.specs.Fields.{remaining, limit}
use Rattle.creation.specs.Creation.{creation}
use Rattle.creation.specs.NamedValues.{a3, created as creates, named_values as creation_values}
use Rattle.creation.proofs.NamedValues.{as_named as creation_as_named}
use Rattle.compact.specs.declared.ParsedInstructions.{ParsedInstructions}
use Rattle.compact.specs.Views.{reading}
use Rattle.compact.specs.NamedValues.{c2, read, reading_numbers, named_values as compact_values}
use Rattle.compact.proofs.NamedValues.{as_named as compact_as_named}
use Rattle.outflow.specs.Outflow.{decrease}
use Rattle.judge.specs.Judge.{Call, region_after}
use Rattle.judge.specs.NamedValues.{left, recurring, called, spending, outcome, call_values}
use Rattle.judge.proofs.NamedValues.{calls_as_named}
use Rattle.bursar.specs.Run.{Created, Slotted, Judgment, Judge, ours, after_run, Fund, sol, taken_by, taken_where, taken}
use Rattle.bursar.specs.Limits.{limit_of, recurring_of, taken_at}
use Rattle.bursar.specs.Sentence.{LeftAndTaken, WithinWindows, KeepsTheSentence, JudgesAsOurs, FallsBy}
use Rattle.bursar.specs.Judges.{refusing, accepting, never_writing, settling_the_first, resetting, reset, left_in, sums, limit_in, once, twice}
use Rattle.bursar.proofs.Theorems.{what_is_left_and_what_was_taken_are_the_opening, a_window_takes_at_most_its_limit}
use Rattle.bursar.proofs.Computed.{judges_computed, left-created, recurring-created}

-- ---- what the sentence says of one run

number_is : {n m : ℕ} {l k : List ℕ} → n ∷ l ≡ m ∷ k → n ≡ m
number_is e = cc

rest_is : {n m : ℕ} {l k : List ℕ} → n ∷ l ≡ m ∷ k → l ≡ k
rest_is e = cc

module _ (judge : Judge) (fund : Fund) (region : List ℕ) (calls : List Call) (created : Created region) where
  -- of a judge that keeps its first half, the sums of a run add up
  pub adds_up : (opening end took : ℕ) → sums fund judge region calls ≡ opening ∷ end ∷ took ∷ [] → LeftAndTaken judge → end + took ≡ opening
  unfolding sums
  adds_up opening end took is keeps = go (limit_of fund region) (limit_of fund (after_run judge region calls)) refl refl is
    where
      go : (a b : Option (List ℕ)) → limit_of fund region ≡ a → limit_of fund (after_run judge region calls) ≡ b
          → left_in a ++ left_in b ++ (taken fund judge region calls ∷ []) ≡ opening ∷ end ∷ took ∷ [] → end + took ≡ opening
      go none none first last e = absurd (let short : 1 ≡ 3 = ap length e in omega (arith, short))
      go none (some b) first last e = absurd (let short : 2 ≡ 3 = ap length e in omega (arith, short))
      go (some a) none first last e = absurd (let short : 2 ≡ 3 = ap length e in omega (arith, short))
      go (some a) (some b) first last e =
          let (c, found, sum) = keeps region calls fund a created first in
          let same : b ≡ c = let is_same : some b ≡ some c = sym last ∙ found in cc in
          let left_is : remaining b ≡ remaining c = ap remaining same in
          let opening_is : remaining a ≡ opening = number_is e in
          let end_is : remaining b ≡ end = number_is (rest_is e) in
          let took_is : taken fund judge region calls ≡ took = number_is (rest_is (rest_is e)) in
          omega (arith, left_is, opening_is, end_is, took_is, sum)

  -- of one that keeps its second half, what is taken with one last reset is at most the limit
  pub is_within : Slotted calls → (most : ℕ) → limit_in (recurring_of fund region) ≡ most ∷ [] → most < highest → WithinWindows judge
      → (slot : ℕ) → taken_at slot fund judge region calls ≤ most
  is_within slots most is below keeps slot = go (recurring_of fund region) refl is
    where
      go : (a : Option (List ℕ)) → recurring_of fund region ≡ a → limit_in a ≡ most ∷ [] → taken_at slot fund judge region calls ≤ most
      go none there e = absurd (let short : ◌≡◌ {A = ℕ} 0 1 = ap length e in omega (arith, short))
      go (some a) there e =
          let most_is : limit a ≡ most = number_is e in
          let within = keeps region calls fund a created slots there (rw most_is below) slot in
          omega (arith, most_is, within)

  -- and no more is taken than the opening amount
  pub takes_at_most_the_opening : (opening : ℕ) → left_in (limit_of fund region) ≡ opening ∷ [] → LeftAndTaken judge → taken fund judge region calls ≤ opening
  takes_at_most_the_opening opening is keeps = go (limit_of fund region) refl is
    where
      go : (a : Option (List ℕ)) → limit_of fund region ≡ a → left_in a ≡ opening ∷ [] → taken fund judge region calls ≤ opening
      go none there e = absurd (let short : ◌≡◌ {A = ℕ} 0 1 = ap length e in omega (arith, short))
      go (some a) there e =
          let (end, found, sum) = keeps region calls fund a created there in
          let opening_is : remaining a ≡ opening = number_is e in
          omega (arith, opening_is, sum)

-- ---- ours

pub ours_keeps_the_sentence : KeepsTheSentence ours
ours_keeps_the_sentence = record { left = what_is_left_and_what_was_taken_are_the_opening; windows = a_window_takes_at_most_its_limit }

-- and with it whatever meets demand 2
pub what_judges_as_ours_keeps_the_sentence : (judge : Judge) → JudgesAsOurs judge → KeepsTheSentence judge
what_judges_as_ours_keeps_the_sentence judge as-ours =
    let same : ours ≡ judge = λ i n region call. sym (as-ours n region call) i in
    subst KeepsTheSentence same ours_keeps_the_sentence

-- ---- what falls to demand 2

-- a judge that answers one call otherwise does not judge as ours
pub what_answers_otherwise_is_not_ours : (judge : Judge) (region : List ℕ) (call : Call) → FallsBy region call judge → JudgesAsOurs judge → ⊥
what_answers_otherwise_is_not_ours judge region call falls as-ours = falls 0 (ap (λ (said : Judgment). said.number) (as-ours 0 region call))

-- refusing everything keeps the sentence
module _ (number : ℕ) (refuses : 0 < number) where
  leaves_all : (calls : List Call) (region : List ℕ) → after_run (refusing number) region calls ≡ region
  unfolding after_run
  leaves_all [] region = refl
  leaves_all (call ∷ calls) region = leaves_all calls region

  takes_nothing : (test : List ℕ → Bool) (fund : Fund) (calls : List Call) (region : List ℕ) → taken_where test fund (refusing number) region calls ≡ 0
  unfolding taken_where
  takes_nothing test fund [] region = refl
  takes_nothing test fund (call ∷ calls) region =
      let not_accepted : eqb number accepted ≡ false = ne_eqb number accepted (λ e. omega arith) in
      let rest = takes_nothing test fund calls region in
      ap (λ (b : Bool). cond (b && test region) (taken_by fund call) 0 + taken_where test fund (refusing number) region calls) not_accepted
      ∙ (let z : 0 + taken_where test fund (refusing number) region calls ≡ 0 = omega (arith, rest) in z)

  pub refusing_everything_keeps_the_sentence : KeepsTheSentence (refusing number)
  refusing_everything_keeps_the_sentence = record {
    left = λ region calls fund opening created is. (
      opening,
      ap (limit_of fund) (leaves_all calls region) ∙ is,
      (let none_taken = takes_nothing (λ (after : List ℕ). true) fund calls region in omega (arith, none_taken)),
    );
    windows = λ region calls fund opening created slots is below slot. (let none_taken : taken_at slot fund (refusing number) region calls ≡ 0 = takes_nothing _ fund calls region in omega (arith, none_taken));
  }

  pub refusing_everything_falls_by_the_first_call_of_B1 : FallsBy (left 100) (spending 0 40) (refusing number)
  unfolding call_values outcome
  refusing_everything_falls_by_the_first_call_of_B1 n e = let is = number_is calls_as_named.0 in omega (arith, e, is)

-- accepting everything breaks its first half too, whatever it writes
module _ (writes : ℕ → List ℕ → Call → List ℕ) where
  pub accepting_everything_falls_by_the_second_call_of_B1 : FallsBy (left 60) (spending 0 61) (accepting writes)
  unfolding call_values outcome
  accepting_everything_falls_by_the_second_call_of_B1 n e = let is = number_is calls_as_named.1.0 in omega (arith, e, is)

  takes_101 : taken sol (accepting writes) (left 100) (spending 5 101 ∷ []) ≡ 101
  unfolding taken_where taken_by decrease floored_difference spending called
  takes_101 = refl

  pub accepting_everything_breaks_the_sentence : LeftAndTaken (accepting writes) → ⊥
  accepting_everything_breaks_the_sentence keeps =
      let most = takes_at_most_the_opening (accepting writes) sol (left 100) (spending 5 101 ∷ []) left-created 100 judges_computed.opening keeps in
      let took = takes_101 in
      omega (arith, most, took)

-- creation that accepts everything
pub creation_that_accepts_everything_falls_by_A3 : (check : List ℕ → Answer) → ((region : List ℕ) → accepts (check region) ≡ true)
    → number_of (check a3) ≡ number_of (creation a3) → ⊥
unfolding creation_values creates
creation_that_accepts_everything_falls_by_A3 check accepts-all e =
    let is = number_is creation_as_named.1.1.1.1.0 in
    let accepts_a3 : number_of (check a3) ≡ accepted = ap number_of (accepted_is (check a3) (accepts-all a3)) in
    omega (arith, e, is, accepts_a3)

-- a reader whose count of consumed bytes is made up
second : List ℕ → ℕ
second [] = 0
second (a ∷ []) = 0
second (a ∷ b ∷ l) = b

pub a_made_up_consumed_count_falls_by_C2 : (reader : List ℕ → Refusable ParsedInstructions) → ((parsed : ParsedInstructions) → reader c2 ≡ Ok parsed → parsed.consumed ≡ 8 → ⊥)
    → reader c2 ≡ reading c2 → ⊥
unfolding compact_values read reading_numbers second
a_made_up_consumed_count_falls_by_C2 reader made_up e = go (reading c2) refl
  where
    eight : second (reading_numbers (reading c2)) ≡ 8
    eight = ap second compact_as_named.1.0

    go : (r : Refusable ParsedInstructions) → reading c2 ≡ r → ⊥
    go (Ok parsed) is = made_up parsed (e ∙ is) (ap (λ (x : Refusable ParsedInstructions). second (reading_numbers x)) (sym is) ∙ eight)
    go (Err q) is = let z : ◌≡◌ {A = ℕ} 0 8 = ap (λ (x : Refusable ParsedInstructions). second (reading_numbers x)) (sym is) ∙ eight in omega arith

-- ---- what breaks its first half

pub never_writing_breaks_the_sentence : LeftAndTaken never_writing → ⊥
never_writing_breaks_the_sentence keeps =
    let sum : 100 + 40 ≡ 100 = adds_up never_writing sol (left 100) once left-created 100 100 40 judges_computed.never_writing_lem keeps in
    omega (arith, sum)

-- at the second decrease: the first alone adds up
pub settling_the_first_call_alone_breaks_the_sentence : LeftAndTaken settling_the_first → ⊥
settling_the_first_call_alone_breaks_the_sentence keeps =
    let sum : 60 + 80 ≡ 100 = adds_up settling_the_first sol (left 100) twice left-created 100 60 80 judges_computed.settling_twice keeps in
    omega (arith, sum)

-- ---- what breaks its second half, of windows

-- a judge that says of a call what another says of it, and the same again, takes twice what that one takes once
taken_twice : (judge other : Judge) (test : List ℕ → Bool) (fund : Fund) (region : List ℕ) (call : Call) (took : ℕ)
    → taken_where test fund other region (call ∷ []) ≡ took
    → judge 0 region call ≡ other 0 region call → judge 1 (other 0 region call).region call ≡ other 0 region call
    → taken_where test fund judge region (call ∷ call ∷ []) ≡ took + took
unfolding taken_where
taken_twice judge other test fund region call took one first second = rw (first, second) (omega (arith, one))

module _ (likes : ℕ → List ℕ → Call → Bool) (second : likes 1 (recurring 50 40 0) (spending 5 40) ≡ true) where
  abbrev fresh : List ℕ
  fresh = recurring 50 0 0

  abbrev forty : Call
  forty = spending 5 40

  fresh_again : (b : Bool) → cond b (reset fresh) fresh ≡ fresh
  fresh_again true = judges_computed.fresh_is_reset
  fresh_again false = refl

  said_at_first : resetting likes 0 fresh forty ≡ ours 0 fresh forty
  said_at_first = ap (λ (region : List ℕ). ours 0 region forty) (fresh_again (likes 0 fresh forty))

  said_then : resetting likes 1 (region_after fresh forty) forty ≡ ours 0 fresh forty
  said_then =
      ap (λ (region : List ℕ). resetting likes 1 region forty) judges_computed.spent_once
      ∙ ap (λ (b : Bool). ours 1 (cond b (reset (recurring 50 40 0)) (recurring 50 40 0)) forty) second
      ∙ ap (λ (region : List ℕ). ours 1 region forty) judges_computed.reset_is_fresh

  slots_fit : Slotted twice
  unfolding spending called highest
  slots_fit = (lit≤ tt, (lit≤ tt, tt))

  small : 50 < highest
  unfolding highest
  small = lit≤ tt

  pub resetting_windows_at_will_breaks_its_windows : WithinWindows (resetting likes) → ⊥
  resetting_windows_at_will_breaks_its_windows keeps =
      let within = is_within (resetting likes) sol fresh twice recurring-created slots_fit 50 judges_computed.window small keeps 0 in
      let took : taken_at 0 sol (resetting likes) fresh twice ≡ 40 + 40 = taken_twice (resetting likes) ours _ sol fresh forty 40 judges_computed.taken_once said_at_first said_then in
      omega (arith, within, took)
