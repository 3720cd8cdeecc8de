-- That a contract asks nothing and leaves one outcome, said once over any contract. T is a function's signature, with which of its parameters
-- the contract speaks of at exit. A crate hands on, for each of its public functions, T as `ended` and the contract as `Reads.Pre` and `Reads.Post`.
-- Assumes nothing.
use Rattle.std.specs.Prelude.{◌≡◌}
use contract.Lifetimes.{Lfts}
use Rattle.std.specs.Borrow.{Bor}
use denote.Triple.Entry.{Args, Res}
use denote.Triple.Clauses.{Ended, Lasts, AtExit, at_exit}

module _ (T : Ended) where
  -- the lifetimes of the references that a call is handed
  abbrev Lifetimes : Type 0
  Lifetimes = Lfts T.signature.lifetimes

  -- what a call is handed
  abbrev Arguments : Lifetimes → Type 0
  Arguments = Args T.signature

  -- what a contract asks: a claim about the arguments
  abbrev Asks : Type 1
  Asks = (κs : Lifetimes) → Arguments κs → Type 0

  -- what a contract promises: a claim about the arguments, the answer and the parameters at exit
  abbrev Promises : (Lifetimes → Type 0) → Type 1
  Promises Answer = (κs : Lifetimes) → Arguments κs → Answer κs → AtExit T κs → Type 0

  -- an outcome: the answer, with the last value of each parameter that is lent for writing
  abbrev Outcome : (Lifetimes → Type 0) → (κs : Lifetimes) → Arguments κs → Type 0
  Outcome Answer κs a = Answer κs × Lasts T κs a

  module _ {Answer Counted : Lifetimes → Type 0} (counted : (κs : Lifetimes) → Answer κs → Counted κs) (Pre : Asks) (Post : Promises Answer) where
    -- an outcome is as promised
    abbrev Meets : (κs : Lifetimes) (a : Arguments κs) → Outcome Answer κs a → Type 0
    Meets κs a x = Post κs a x.0 (at_exit T κs a x.1)

    -- an outcome with what is counted of its answer
    abbrev seen : (κs : Lifetimes) (a : Arguments κs) → Outcome Answer κs a → Outcome Counted κs a
    seen κs a x = (counted κs x.0, x.1)

    -- for all arguments nothing is asked, and whatever two outcomes are as promised are the same
    abbrev OneOutcomeAs : Type 0
    OneOutcomeAs = (κs : Lifetimes) (a : Arguments κs) → Pre κs a × ((x y : Outcome Answer κs a) → Meets κs a x → Meets κs a y → seen κs a x ≡ seen κs a y)

  -- where the answer counts as it is
  abbrev pub OneOutcome : Asks → Promises (Res T.signature) → Type 0
  OneOutcome = OneOutcomeAs {Answer = Res T.signature} {Counted = Res T.signature} (λ κs r. r)

  -- where the answer is a slice: it counts as what it holds, not as where that lies
  abbrev pub OneOutcomeOfSlice : {X : Type 0} → Asks → Promises (λ κs. Bor X) → Type 0
  OneOutcomeOfSlice {X = X} = OneOutcomeAs {Answer = λ κs. Bor X} {Counted = λ κs. X} (λ κs r. r.now)
