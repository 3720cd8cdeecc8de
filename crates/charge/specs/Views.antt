-- Charges as the code has them: views of a region's actions, and an amount for each.
-- Assumes nothing.
use Rattle.std.specs.Prelude.{ℕ, List, [], ◌∷◌}
use Rattle.action.specs.declared.ActionView.{ActionView}
use Rattle.action.specs.Action.{Action}
use Rattle.action.specs.Views.{action_at, written_at}
use Rattle.row.specs.Views.{actions_in}
use Rattle.limit.specs.Limit.{Charge, settled}

-- actions with an amount each, as far as both go
unfoldable pub charges : List Action → List ℕ → List Charge
charges [] xs = []
charges (a ∷ l) [] = []
charges (a ∷ l) (x ∷ xs) = record { act = a; amount = x } ∷ charges l xs

-- the charges of the actions of a row
unfoldable pub charges_at : List ℕ → List ActionView → List ℕ → List Charge
unfolding charges
charges_at s views amounts = charges (actions_in s views) amounts

-- a region after each view's action is settled where it lies, one after the other
unfoldable pub settled_at : ℕ → List ActionView → List ℕ → List ℕ → List ℕ
settled_at slot [] xs s = s
settled_at slot (v ∷ vs) [] s = s
settled_at slot (v ∷ vs) (x ∷ xs) s = settled_at slot vs xs (written_at s v (settled slot (record { act = action_at s v; amount = x })))
