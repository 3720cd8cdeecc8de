-- The rule of one limit, for SOL and tokens alike: an amount against an action's amounts at a slot, and what is written when it is kept.
-- Assumes nothing.
use Rattle.std.specs.Prelude.{ℕ, ◌*◌, ◌/◌, Bool, not, cond, ◌&&◌, ◌||◌, List, eqb, ltb}
use Rattle.answer.specs.declared.Refusal.TheVariants.{ActionSolMaxPerTxExceeded, ActionSolLimitExceeded, ActionSolRecurringLimitExceeded, ActionTokenMaxPerTxExceeded, ActionTokenLimitExceeded, ActionTokenRecurringLimitExceeded}
use Rattle.answer.specs.Numbers.{Answer}
use Rattle.answer.specs.Refusable.{Ok, Err}
use Rattle.number.specs.Number.{capped_sum, floored_difference}
use Rattle.action.specs.Action.{Action, expired, sol_limit, sol_recurring_limit, sol_max_per_tx, token_limit, token_recurring_limit, token_max_per_tx}
use Rattle.action.specs.Fields.{is_recurring, amounts_of, remaining, limit, spent, window, last_reset}
use Rattle.change.specs.declared.Change.{Change}
use Rattle.change.specs.declared.Change.TheVariants.{Nothing, Remaining, Spent}
use Rattle.change.specs.Changed.{changed}

-- an action and the amount that its rule looks at
pub record Charge : Type 0 where
  pub act : Action
  pub amount : ℕ

-- the refusal of a type's rule; a list has none
unfoldable pub refusal_of : ℕ → Answer
refusal_of kind =
    cond (eqb kind sol_limit) (Err ActionSolLimitExceeded)
    (cond (eqb kind sol_recurring_limit) (Err ActionSolRecurringLimitExceeded)
    (cond (eqb kind sol_max_per_tx) (Err ActionSolMaxPerTxExceeded)
    (cond (eqb kind token_limit) (Err ActionTokenLimitExceeded)
    (cond (eqb kind token_recurring_limit) (Err ActionTokenRecurringLimitExceeded)
    (cond (eqb kind token_max_per_tx) (Err ActionTokenMaxPerTxExceeded) (Ok tt))))))

-- the window is over: more slots have passed since the last reset than it has
unfoldable pub window_over : ℕ → List ℕ → Bool
window_over slot amounts = ltb (window amounts) (floored_difference slot (last_reset amounts))

-- what counts as spent in the window
unfoldable pub base : ℕ → List ℕ → ℕ
unfolding window_over
base slot amounts = cond (window_over slot amounts) 0 (spent amounts)

-- whether an amount is above what the action allows: with what is spent above the limit, or above what is left or the maximum
unfoldable pub above : ℕ → ℕ → Action → Bool
unfolding base
above slot amount a =
    cond (is_recurring a.kind) (ltb (limit (amounts_of a)) (capped_sum (base slot (amounts_of a)) amount)) (ltb (remaining (amounts_of a)) amount)

-- whether an amount breaks the action's rule: it is above 0, and the action expired or the amount above what it allows
unfoldable pub breaks : ℕ → ℕ → Action → Bool
unfolding above
breaks slot amount a = ltb 0 amount && (expired a.expires slot || above slot amount a)

-- what the rule of one action answers
unfoldable pub rule_answer : ℕ → Charge → Answer
unfolding breaks refusal_of
rule_answer slot c = cond (breaks slot c.amount c.act) (refusal_of c.act.kind) (Ok tt)

-- what is written of a window: what is spent and, where it was over, the slot that the new one began at
unfoldable pub spent_change : ℕ → ℕ → List ℕ → Change
unfolding window_over
spent_change slot amount amounts =
    cond (window_over slot amounts) (Spent amount (slot / window amounts * window amounts)) (Spent (capped_sum (spent amounts) amount) (last_reset amounts))

-- whether a type keeps what is left
unfoldable pub is_limit : ℕ → Bool
is_limit kind = eqb kind sol_limit || eqb kind token_limit

-- what an accepted call writes into the amounts of a live action for an amount above 0
unfoldable pub live_change : ℕ → ℕ → Action → Change
unfolding spent_change is_limit
live_change slot amount a =
    cond (is_recurring a.kind) (spent_change slot amount (amounts_of a))
    (cond (is_limit a.kind) (Remaining (floored_difference (remaining (amounts_of a)) amount)) Nothing)

-- what an accepted call writes: nothing for an amount of 0 or into what is expired
unfoldable pub change_of : ℕ → Charge → Change
unfolding live_change
change_of slot c = cond (ltb 0 c.amount && not (expired c.act.expires slot)) (live_change slot c.amount c.act) Nothing

-- an action after an accepted call
unfoldable pub settled : ℕ → Charge → Action
unfolding change_of
settled slot c = changed (change_of slot c) c.act
