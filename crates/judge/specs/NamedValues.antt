-- All named values of document 01 in one table: creation (A), judged calls (B), compact instructions (C).
-- Assumes nothing.
use Rattle.std.specs.Prelude.{ℕ, ◌-◌, ◌^◌, List, [], ◌∷◌, ◌++◌, replicate}
use Rattle.answer.specs.NamedValue.{NamedValue}
use Rattle.answer.specs.Numbers.{number_of, accepted, action_sol_max_per_tx_exceeded, action_sol_limit_exceeded, action_sol_recurring_limit_exceeded}
use Rattle.number.specs.Number.{bytes_of}
use Rattle.action.specs.Action.{sol_limit, sol_recurring_limit, sol_max_per_tx}
use Rattle.region.specs.Region.{glue}
use Rattle.creation.specs.NamedValues.{named_values as creation_values}
use Rattle.compact.specs.NamedValues.{named_values as compact_values}
use Rattle.judge.specs.Judge.{Call, judged, region_after}

-- a region of one action: its type, its expiry, its amounts
unfoldable pub one : ℕ → ℕ → List ℕ → List ℕ
one kind expires amounts = glue (record { kind = kind; expires = expires; payload = amounts } ∷ [])

-- a SolLimit with so much left
unfoldable pub left : ℕ → List ℕ
unfolding one
left remaining = one sol_limit 0 (bytes_of 8 remaining)

-- a recurring limit with a window of 10: the limit, what is spent, the last reset
unfoldable pub recurring : ℕ → ℕ → ℕ → List ℕ
unfolding one
recurring limit spent reset = one sol_recurring_limit 0 (bytes_of 8 limit ++ bytes_of 8 spent ++ bytes_of 8 10 ++ bytes_of 8 reset)

-- a call of no instructions, over tables of no records
unfoldable pub called : ℕ → ℕ → ℕ → ℕ → Call
called slot before after gross =
    record {
      before = 0 ∷ 0 ∷ [];
      after = 0 ∷ 0 ∷ [];
      instructions = 0 ∷ [];
      vault = replicate 32 0;
      slot = slot;
      lamports_before = before;
      lamports_after = after;
      gross = gross;
    }

-- a call at a slot with a decrease in lamports
unfoldable pub spending : ℕ → ℕ → Call
unfolding called
spending slot decrease = called slot decrease 0 0

-- what a judged call gives: the answer, and the region afterwards
unfoldable pub outcome : List ℕ → Call → List ℕ
outcome region call = number_of (judged region call) ∷ region_after region call

unfoldable pub call_values : List NamedValue
unfolding left recurring spending outcome
call_values =
    -- B1: SolLimit 100, decreases 40, 61, 60
    record { gives = outcome (left 100) (spending 0 40); named = accepted ∷ left 60 }
    ∷ record { gives = outcome (left 60) (spending 0 61); named = action_sol_limit_exceeded ∷ left 60 }
    ∷ record { gives = outcome (left 60) (spending 0 60); named = accepted ∷ left 0 }
    -- B2: recurring limit 100, window 10
    ∷ record { gives = outcome (recurring 100 0 0) (spending 10 70); named = accepted ∷ recurring 100 70 0 }
    ∷ record { gives = outcome (recurring 100 70 0) (spending 10 40); named = action_sol_recurring_limit_exceeded ∷ recurring 100 70 0 }
    ∷ record { gives = outcome (recurring 100 70 0) (spending 11 40); named = accepted ∷ recurring 100 40 10 }
    ∷ record { gives = outcome (recurring 100 40 10) (spending 20 60); named = accepted ∷ recurring 100 100 10 }
    ∷ record { gives = outcome (recurring 100 100 10) (spending 21 1); named = accepted ∷ recurring 100 1 20 }
    -- B3: limit and spent 2^64 - 1, window not over
    ∷ record {
      gives = outcome (recurring (2 ^ 64 - 1) (2 ^ 64 - 1) 0) (spending 10 1);
      named = accepted ∷ recurring (2 ^ 64 - 1) (2 ^ 64 - 1) 0;
    }
    -- B4: SolLimit 100 expiring at 50
    ∷ record { gives = outcome (one sol_limit 50 (bytes_of 8 100)) (spending 50 1); named = accepted ∷ one sol_limit 50 (bytes_of 8 99) }
    ∷ record { gives = outcome (one sol_limit 50 (bytes_of 8 100)) (spending 51 1); named = action_sol_limit_exceeded ∷ one sol_limit 50 (bytes_of 8 100) }
    ∷ record { gives = outcome (one sol_limit 50 (bytes_of 8 100)) (spending 51 0); named = accepted ∷ one sol_limit 50 (bytes_of 8 100) }
    -- B5: SolMaxPerTx 10, before = after = 500, gross 11
    ∷ record {
      gives = outcome (one sol_max_per_tx 0 (bytes_of 8 10)) (called 0 500 500 11);
      named = action_sol_max_per_tx_exceeded ∷ one sol_max_per_tx 0 (bytes_of 8 10);
    }
    ∷ []

-- A1 to C3
unfoldable pub named_values : List NamedValue
named_values = creation_values ++ call_values ++ compact_values
