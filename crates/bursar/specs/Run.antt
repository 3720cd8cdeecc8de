-- A run of calls on one region by any judge, and what its accepted calls take.
-- Assumes nothing.
use Rattle.std.specs.Prelude.{ℕ, suc, ◌+◌, ◌≤◌, ◌≡◌, Bool, true, cond, ◌&&◌, List, [], ◌∷◌, eqb}
use Rattle.answer.specs.Numbers.{number_of, accepted, accepts}
use Rattle.answer.specs.Each.{Each}
use Rattle.number.specs.Number.{Bytes, highest}
use Rattle.creation.specs.Creation.{creation}
use Rattle.outflow.specs.Outflow.{decrease, decrease_of}
use Rattle.judge.specs.Judge.{Call, records_before, records_after, judged, region_after}

-- a region, as bytes, that creation accepted
abbrev pub Created : List ℕ → Type 0
Created region = Bytes region × (accepts (creation region) ≡ true)

-- the slots of some calls are numbers of 64 bits, in any order
abbrev pub Slotted : List Call → Type 0
Slotted calls = Each (λ (call : Call). call.slot ≤ highest) calls

-- what a judge says of a call: the number that it answers with, any at all, and the region afterwards
pub record Judgment : Type 0 where
  pub number : ℕ
  pub region : List ℕ

-- any judge: what it says of a region and a call, after so many calls
abbrev pub Judge : Type 0
Judge = ℕ → List ℕ → Call → Judgment

-- a judge when one more call has come
abbrev pub after_one : Judge → Judge
after_one judge n = judge (suc n)

-- ours: the judged call, whatever came before
abbrev pub ours : Judge
ours n region call = record { number = number_of (judged region call); region = region_after region call }

-- the region after a run: each call is judged on what the one before it left
unfoldable pub after_run : Judge → List ℕ → List Call → List ℕ
after_run judge region [] = region
after_run judge region (call ∷ calls) = after_run (after_one judge) (judge 0 region call).region calls

-- the number that each call of a run is answered with
unfoldable pub numbers_of : Judge → List ℕ → List Call → List ℕ
numbers_of judge region [] = []
numbers_of judge region (call ∷ calls) = (judge 0 region call).number ∷ numbers_of (after_one judge) (judge 0 region call).region calls

-- what limits speak of: SOL, or the tokens of a mint
pub data Fund : Type 0 where
  sol : Fund
  tokens : List ℕ → Fund

-- what a call takes from a fund: how far the vault's lamports, or its balance of the mint, went down
unfoldable pub taken_by : Fund → Call → ℕ
taken_by sol call = decrease call.lamports_before call.lamports_after
taken_by (tokens mint) call = decrease_of call.vault (records_before call) (records_after call) mint

-- what the accepted calls of a run take from a fund, of those that leave a region that passes a test
unfoldable pub taken_where : (List ℕ → Bool) → Fund → Judge → List ℕ → List Call → ℕ
taken_where test fund judge region [] = 0
taken_where test fund judge region (call ∷ calls) =
    let said = judge 0 region call in
    cond (eqb said.number accepted && test said.region) (taken_by fund call) 0 + taken_where test fund (after_one judge) said.region calls

-- what all accepted calls of a run take from a fund
abbrev pub taken : Fund → Judge → List ℕ → List Call → ℕ
taken fund judge region calls = taken_where (λ (after : List ℕ). true) fund judge region calls
