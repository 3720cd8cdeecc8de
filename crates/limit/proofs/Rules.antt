-- Laws of one action's rule and of what is written, test by test.
-- Assumes nothing.
use mathlib.Core.Path.{◌≡◌}
use mathlib.Core.Bool.{true, false}
use mathlib.Core.List.{List}
use Prim.Native.Nat.{ℕ, ◌*◌, ◌/◌, ◌<◌, ◌≤◌}
use borrow.Author.Tests.{lt-ltb, le-ltb}
use lib.Dec.{ltb}
use Rattle.answer.specs.Refusable.{Ok}
use Rattle.number.specs.Number.{capped_sum, floored_difference}
use Rattle.action.specs.Action.{Action, expired}
use Rattle.action.specs.Fields.{is_recurring, amounts_of, remaining, limit, spent, window, last_reset}
use Rattle.change.specs.declared.Change.TheVariants.{Nothing, Remaining, Spent}
use Rattle.limit.specs.Limit.{Charge, refusal_of, window_over, base, above, breaks, rule_answer, spent_change, is_limit, live_change, change_of}

module _ (slot amount : ℕ) (a : Action) (amounts : List ℕ) (e : amounts ≡ amounts_of a) where
  pub above-recurring : is_recurring a.kind ≡ true → above slot amount a ≡ ltb (limit amounts) (capped_sum (base slot amounts) amount)
  unfolding above
  above-recurring r = rw (r, ← e)

  pub above_other : is_recurring a.kind ≡ false → above slot amount a ≡ ltb (remaining amounts) amount
  unfolding above
  above_other r = rw (r, ← e)

  pub change-recurring : is_recurring a.kind ≡ true → live_change slot amount a ≡ spent_change slot amount amounts
  unfolding live_change
  change-recurring r = rw (r, ← e)

  module _ (r : is_recurring a.kind ≡ false) where
    pub change-limit : is_limit a.kind ≡ true → live_change slot amount a ≡ Remaining (floored_difference (remaining amounts) amount)
    unfolding live_change
    change-limit l = rw (r, l, ← e)

    pub change_none : is_limit a.kind ≡ false → live_change slot amount a ≡ Nothing
    unfolding live_change
    change_none l = rw (r, l)

module _ (slot amount : ℕ) (a : Action) where
  pub breaks_nothing : amount ≤ 0 → breaks slot amount a ≡ false
  unfolding breaks
  breaks_nothing h = rw (le-ltb _ _ h)

  module _ (some : 0 < amount) where
    pub breaks-expired : expired a.expires slot ≡ true → breaks slot amount a ≡ true
    unfolding breaks
    breaks-expired x = rw (lt-ltb _ _ some, x)

    pub breaks-above : expired a.expires slot ≡ false → breaks slot amount a ≡ above slot amount a
    unfolding breaks
    breaks-above x = rw (lt-ltb _ _ some, x)

module _ (slot : ℕ) (c : Charge) where
  pub rule_broken : breaks slot c.amount c.act ≡ true → rule_answer slot c ≡ refusal_of c.act.kind
  unfolding rule_answer
  rule_broken b = rw b

  pub rule_kept : breaks slot c.amount c.act ≡ false → rule_answer slot c ≡ Ok tt
  unfolding rule_answer
  rule_kept b = rw b

  pub unchanged_nothing : c.amount ≤ 0 → change_of slot c ≡ Nothing
  unfolding change_of
  unchanged_nothing h = rw (le-ltb _ _ h)

  module _ (some : 0 < c.amount) where
    pub unchanged_expired : expired c.act.expires slot ≡ true → change_of slot c ≡ Nothing
    unfolding change_of
    unchanged_expired x = rw (lt-ltb _ _ some, x)

    pub changed_live : expired c.act.expires slot ≡ false → change_of slot c ≡ live_change slot c.amount c.act
    unfolding change_of
    changed_live x = rw (lt-ltb _ _ some, x)

module _ (slot amount : ℕ) (amounts : List ℕ) where
  pub spent_anew : window_over slot amounts ≡ true → spent_change slot amount amounts ≡ Spent amount (slot / window amounts * window amounts)
  unfolding spent_change
  spent_anew w = rw w

  pub spent_more : window_over slot amounts ≡ false → spent_change slot amount amounts ≡ Spent (capped_sum (spent amounts) amount) (last_reset amounts)
  unfolding spent_change
  spent_more w = rw w
