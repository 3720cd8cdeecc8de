-- Laws of views: the amounts that a view names.
-- Assumes nothing.
use mathlib.Core.Path.{◌≡◌, sym, ◌∙◌}
use mathlib.Core.List.{List, []}
use Prim.Native.Nat.{ℕ, ◌<◌}
use native.Mathlib.Omega.{arith}
use lib.ListN.{length, drop, drop_of_length-le}
use Rattle.action.specs.declared.ActionView.{ActionView}
use Rattle.action.specs.Fields.{mint_length, amounts_of}
use Rattle.action.specs.Views.{data_at, action_at}

-- the amounts of the action that a view names, from its data
module _ (s : List ℕ) (v : ActionView) (payload : List ℕ) (e : payload ≡ data_at s v) where
  pub amounts_at : drop (mint_length v.kind) payload ≡ amounts_of (action_at s v)
  unfolding amounts_of action_at
  amounts_at = rw e

  pub no_amounts : length payload < mint_length v.kind → [] ≡ amounts_of (action_at s v)
  no_amounts short = sym (drop_of_length-le payload {i = mint_length v.kind} (omega arith)) ∙ amounts_at
