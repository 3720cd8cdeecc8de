-- Laws of the listed mints, collected action by action.
-- Assumes nothing.
use mathlib.Core.Path.{◌≡◌, refl, ◌∙◌}
use mathlib.Core.Bool.{Bool, true, false, not, cond, ◌&&◌}
use mathlib.Core.List.{List, []}
use Prim.Native.Nat.{ℕ, suc, ◌+◌, ◌<◌, ◌≤◌}
use native.Mathlib.Omega.{arith}
use borrow.Author.Tests.{ltb-true}
use lib.Dec.{eqb, ltb}
use lib.ListN.{length, get_or, drop, set, length-set, drop_of_length-le}
use Rattle.keys.specs.declared.Keys.{Keys}
use Rattle.keys.specs.Views.{is_among, keys_in, keys_of, with_key}
use Rattle.action.specs.declared.ActionView.{ActionView}
use Rattle.action.specs.Action.{Action}
use Rattle.action.specs.Fields.{is_token, key_of}
use Rattle.action.specs.Views.{zero_action_view, action_at}
use Rattle.row.specs.Views.{actions_in}
use Rattle.row.proofs.Views.{actions_step, length_actions}
use Rattle.mints.specs.Views.{with_mint, with_mints, listed_mints}

pub mint_kept : (mints : Keys) (a : Action) → is_token a.kind ≡ false → with_mint mints a ≡ mints
unfolding with_mint
mint_kept mints a e = rw e

pub mint_added : (mints : Keys) (a : Action) → is_token a.kind ≡ true → with_mint mints a ≡ with_key mints (key_of a)
unfolding with_mint
mint_added mints a e = rw e

-- a list that is filled keeps its sixteen places, and no more than sixteen are counted
pub record Filled (mints : Keys) : Type 0 where
  pub places : length mints.list ≡ 16
  pub few : mints.count ≤ 16

pub none_filled : Filled (keys_of [])
unfolding keys_of
none_filled = record { places = refl; few = omega arith }

pub filled_next : (mints : Keys) (a : Action) → Filled mints → Filled (with_mint mints a)
unfolding with_mint with_key
filled_next mints a far =
    go (is_token a.kind) (ltb mints.count 16) refl (eqb (length (key_of a)) 32) (not (is_among (key_of a) (keys_in mints)))
  where
    go : (t room : Bool) → ltb mints.count 16 ≡ room → (whole new : Bool)
        → Filled (cond t (cond (room && whole && new) (record { list = set mints.list mints.count (record { bytes = key_of a }); count = mints.count + 1 }) mints) mints)
    go false room e whole new = far
    go true false e whole new = far
    go true true e false new = far
    go true true e true false = far
    go true true e true true = let less : mints.count < 16 = ltb-true _ _ e in record { places = length-set mints.list _ _ ∙ far.places; few = omega arith }

-- ---- collecting, a view at a time

pub mints_step : (s : List ℕ) (views : List ActionView) (i : ℕ) (v : ActionView) (mints : Keys) → v ≡ get_or views i zero_action_view → i < length views
    → with_mints mints (drop i (actions_in s views)) ≡ with_mints (with_mint mints (action_at s v)) (drop (suc i) (actions_in s views))
unfolding with_mints
mints_step s views i v mints here h = rw (here, actions_step s views i zero_action_view h)

pub mints_end : (s : List ℕ) (views : List ActionView) (i : ℕ) (mints : Keys) → length views ≤ i → with_mints mints (drop i (actions_in s views)) ≡ mints
unfolding with_mints
mints_end s views i mints past =
    let short : length (actions_in s views) ≤ i = rw (length_actions s views) past in
    rw (drop_of_length-le (actions_in s views) short)

pub mints_none : (l : List Action) → listed_mints l ≡ with_mints (keys_of []) l
unfolding listed_mints
mints_none l = refl
