-- Judges beside ours: each is the wrong program that its name says.
-- Assumes nothing.
use Rattle.std.specs.Prelude.{ℕ, zero, suc, ◌≡◌, Bool, cond, List, [], ◌∷◌, ◌++◌, map}
use Rattle.std.proofs.Math.Option.{Option, none, some}
use Rattle.answer.specs.Numbers.{number_of, accepted}
use Rattle.action.specs.Action.{Action}
use Rattle.action.specs.Fields.{is_recurring, amounts_of, remaining, limit, last_reset}
use Rattle.change.specs.declared.Change.TheVariants.{Nothing, Spent}
use Rattle.change.specs.Changed.{changed}
use Rattle.region.specs.Region.{glue}
use Rattle.judge.specs.Judge.{Call, judged, region_after}
use Rattle.judge.specs.NamedValues.{left, recurring, spending}
use Rattle.bursar.specs.Run.{Judge, ours, after_run, Fund, sol, taken}
use Rattle.bursar.specs.Limits.{region_actions, limit_of, recurring_of, taken_at}

-- refuses everything, with some number
abbrev pub refusing : ℕ → Judge
refusing number n region call = record { number = number; region = region }

-- accepts everything, and writes what it likes
abbrev pub accepting : (ℕ → List ℕ → Call → List ℕ) → Judge
accepting writes n region call = record { number = accepted; region = writes n region call }

-- answers as ours, and never writes
abbrev pub never_writing : Judge
never_writing n region call = record { number = number_of (judged region call); region = region }

-- settles the first call, and then only answers
abbrev pub settling_the_first : Judge
settling_the_first zero = ours 0
settling_the_first (suc n) = never_writing (suc n)

-- an action with nothing spent of its window, where it has one
unfoldable pub unspent : Action → Action
unspent a = changed (cond (is_recurring a.kind) (Spent 0 (last_reset (amounts_of a))) Nothing) a

-- a region with nothing spent of its windows
unfoldable pub reset : List ℕ → List ℕ
unfolding unspent
reset region = glue (map unspent (region_actions region))

-- resets windows whenever it likes, and then judges as ours
abbrev pub resetting : (ℕ → List ℕ → Call → Bool) → Judge
resetting likes n region call = ours n (cond (likes n region call) (reset region) region) call

-- ---- the runs that they fall by

-- what is left of a limit, nothing where there is none
abbrev pub left_in : Option (List ℕ) → List ℕ
left_in none = []
left_in (some amounts) = remaining amounts ∷ []

-- the sums of a run: a fund's opening amount, what is left at the end, what was taken
unfoldable pub sums : Fund → Judge → List ℕ → List Call → List ℕ
sums fund judge region calls = left_in (limit_of fund region) ++ left_in (limit_of fund (after_run judge region calls)) ++ (taken fund judge region calls ∷ [])

-- the limit of a window, nothing where there is none
abbrev pub limit_in : Option (List ℕ) → List ℕ
limit_in none = []
limit_in (some amounts) = limit amounts ∷ []

-- one call of 40, and two
abbrev pub once : List Call
once = spending 5 40 ∷ []

abbrev pub twice : List Call
twice = spending 5 40 ∷ once

-- what is computed of their runs
pub record JudgesComputed : Type 0 where
  -- ours: of 100 there are 60 and 40, then 20 and 80
  pub ours_once : sums sol ours (left 100) once ≡ 100 ∷ 60 ∷ 40 ∷ []
  pub ours_twice : sums sol ours (left 100) twice ≡ 100 ∷ 20 ∷ 80 ∷ []
  -- never writing: 100 are left beside 40 that were taken
  pub never_writing_lem : sums sol never_writing (left 100) once ≡ 100 ∷ 100 ∷ 40 ∷ []
  -- settling the first call: right at first, and at the second decrease 60 are left beside 80
  pub settling_once : sums sol settling_the_first (left 100) once ≡ 100 ∷ 60 ∷ 40 ∷ []
  pub settling_twice : sums sol settling_the_first (left 100) twice ≡ 100 ∷ 60 ∷ 80 ∷ []
  -- accepting everything: of 100 it takes what it is asked for
  pub opening : left_in (limit_of sol (left 100)) ≡ 100 ∷ []
  -- resetting windows: of 50, 40 are spent; with nothing spent, and the last reset as it was, 40 are taken again
  pub window : limit_in (recurring_of sol (recurring 50 0 0)) ≡ 50 ∷ []
  pub taken_once : taken_at 0 sol ours (recurring 50 0 0) once ≡ 40
  pub spent_once : region_after (recurring 50 0 0) (spending 5 40) ≡ recurring 50 40 0
  pub fresh_is_reset : reset (recurring 50 0 0) ≡ recurring 50 0 0
  pub reset_is_fresh : reset (recurring 50 40 0) ≡ recurring 50 0 0
