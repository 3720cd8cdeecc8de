-- The bursar's sentence, of any judge.
-- Assumes nothing.
use Rattle.answer.specs.Numbers.{number_of}
use Rattle.std.specs.Prelude.{ℕ, ◌+◌, ◌<◌, ◌≤◌, ◌≡◌, List}
use Rattle.std.proofs.Math.Option.{some}
use Rattle.number.specs.Number.{highest}
use Rattle.action.specs.Fields.{remaining, limit}
use Rattle.judge.specs.Judge.{Call, judged}
use Rattle.bursar.specs.Run.{Created, Slotted, Judge, ours, after_run, Fund, taken}
use Rattle.bursar.specs.Limits.{limit_of, recurring_of, taken_at}

-- for the SolLimit, and for the TokenLimit of each mint: what is left at the end and what accepted calls took are the opening amount
abbrev pub LeftAndTaken : Judge → Type 0
LeftAndTaken judge =
    (region : List ℕ) (calls : List Call) (fund : Fund) (opening : List ℕ) → Created region → limit_of fund region ≡ some opening
    → (end : List ℕ) × (limit_of fund (after_run judge region calls) ≡ some end) × (remaining end + taken fund judge region calls ≡ remaining opening)

-- for each recurring limit below 2^64 - 1, SOL's or a mint's: accepted calls that leave the same last reset take at most the limit
abbrev pub WithinWindows : Judge → Type 0
WithinWindows judge =
    (region : List ℕ) (calls : List Call) (fund : Fund) (opening : List ℕ) → Created region → Slotted calls → recurring_of fund region ≡ some opening
    → limit opening < highest → (slot : ℕ) → taken_at slot fund judge region calls ≤ limit opening

-- the sentence: both halves
pub record KeepsTheSentence (judge : Judge) : Type 0 where
  pub left : LeftAndTaken judge
  pub windows : WithinWindows judge

-- ---- demand 2, of any judge

-- every answer and every byte of the region afterwards are those of the judged call
abbrev pub JudgesAsOurs : Judge → Type 0
JudgesAsOurs judge = (n : ℕ) (region : List ℕ) (call : Call) → judge n region call ≡ ours n region call

-- a judge answers a call with another number, whenever it comes
abbrev pub FallsBy : List ℕ → Call → Judge → Type 0
FallsBy region call judge = (n : ℕ) → (judge n region call).number ≡ number_of (judged region call) → ⊥
