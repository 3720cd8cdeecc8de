-- A run with accepted and refused calls, a window that begins anew and a slot that goes back: the sentences speak of something.
-- Assumes nothing.
use Rattle.std.specs.Prelude.{ℕ, ◌≡◌, List, [], ◌∷◌, ◌++◌}
use Rattle.answer.specs.Numbers.{accepted, action_sol_limit_exceeded, action_sol_recurring_limit_exceeded}
use Rattle.number.specs.Number.{bytes_of}
use Rattle.action.specs.Action.{sol_limit, sol_recurring_limit}
use Rattle.region.specs.Region.{glue}
use Rattle.judge.specs.Judge.{Call}
use Rattle.judge.specs.NamedValues.{spending}
use Rattle.bursar.specs.Run.{ours, after_run, numbers_of, sol}
use Rattle.bursar.specs.Limits.{recurring_of, taken_at}
use Rattle.bursar.specs.Judges.{sums, limit_in}

-- a SolLimit with so much left, and a SolRecurringLimit of 50 in 10 slots: what is spent, and the last reset
unfoldable pub holding : ℕ → ℕ → ℕ → List ℕ
holding left spent reset =
    glue
    (record { kind = sol_limit; expires = 0; payload = bytes_of 8 left }
    ∷ record { kind = sol_recurring_limit; expires = 0; payload = bytes_of 8 50 ++ bytes_of 8 spent ++ bytes_of 8 10 ++ bytes_of 8 reset }
    ∷ [])

-- slot 5 twice, slot 25, back to slot 3, slot 26
unfoldable pub morning : List Call
unfolding spending
morning = spending 5 30 ∷ spending 5 30 ∷ spending 25 40 ∷ spending 3 5 ∷ spending 26 26 ∷ []

-- what is computed of the run
pub record ExampleComputed : Type 0 where
  pub numbers
      : numbers_of ours (holding 100 0 0) morning ≡ accepted ∷ action_sol_recurring_limit_exceeded ∷ accepted ∷ accepted ∷ action_sol_limit_exceeded ∷ []
  pub after : after_run ours (holding 100 0 0) morning ≡ holding 25 45 20
  -- the opening amount, what is left, what was taken
  pub of_sol : sums sol ours (holding 100 0 0) morning ≡ 100 ∷ 25 ∷ 75 ∷ []
  -- the limit of the window, what was taken with the last reset at 0 and at 20
  pub window : limit_in (recurring_of sol (holding 100 0 0)) ≡ 50 ∷ []
  pub taken-first : taken_at 0 sol ours (holding 100 0 0) morning ≡ 30
  pub taken_then : taken_at 20 sol ours (holding 100 0 0) morning ≡ 45
