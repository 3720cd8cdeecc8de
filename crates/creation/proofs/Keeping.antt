-- Laws of the rules that each action keeps by itself, test by test.
-- Assumes nothing.
use mathlib.Core.Path.{◌≡◌}
use mathlib.Core.Bool.{true, false}
use mathlib.Core.List.{List}
use Prim.Native.Nat.{ℕ, ◌<◌, ◌≤◌}
use borrow.Author.Tests.{lt-ltb, le-ltb}
use lib.Dec.{eqb, ltb}
use lib.ListN.{length}
use Rattle.action.specs.declared.ActionView.{ActionView}
use Rattle.action.specs.Action.{Action, data_length}
use Rattle.action.specs.Fields.{is_recurring, amounts_of, window}
use Rattle.action.specs.Views.{data_at, action_at}
use Rattle.creation.specs.declared.Rule.TheVariants.{Length, Fresh, Windowed}
use Rattle.creation.specs.Creation.{keeps, how_often, both_lists}

pub length_kept : (s : List ℕ) (v : ActionView) (payload : List ℕ) (size : ℕ) → payload ≡ data_at s v → size ≡ data_length v.kind
    → eqb (length payload) size ≡ keeps Length (action_at s v)
unfolding keeps action_at
length_kept s v payload size p q = rw (p, q)

pub fresh_other : (a : Action) → is_recurring a.kind ≡ false → keeps Fresh a ≡ true
unfolding keeps
fresh_other a r = rw r

pub window_other : (a : Action) → is_recurring a.kind ≡ false → keeps Windowed a ≡ true
unfolding keeps
window_other a r = rw r

module _ (a : Action) (amounts : List ℕ) (e : amounts ≡ amounts_of a) (r : is_recurring a.kind ≡ true) where
  pub window_kept : keeps Windowed a ≡ ltb 0 (window amounts)
  unfolding keeps
  window_kept = rw (r, ← e)

-- ---- the types' codes

module _ (kinds : List ℕ) where
  pub no_whitelist : how_often 10 kinds ≤ 0 → both_lists kinds ≡ false
  unfolding both_lists
  no_whitelist h = rw (le-ltb _ _ h)

  pub a_whitelist : 0 < how_often 10 kinds → both_lists kinds ≡ ltb 0 (how_often 11 kinds)
  unfolding both_lists
  a_whitelist h = rw (lt-ltb _ _ h)
