-- What an accepted call changes in an action: its amounts, and nothing else.
-- Assumes nothing.
use Rattle.std.specs.Prelude.{ℕ, List, ◌++◌, take}
use Rattle.number.specs.Number.{with_number_at}
use Rattle.action.specs.Action.{Action}
use Rattle.action.specs.Fields.{mint_length, amounts_of}
use Rattle.change.specs.declared.Change.{Change}
use Rattle.change.specs.declared.Change.TheVariants.{Nothing, Remaining, Spent}

-- an action with other amounts
unfoldable pub with_amounts : Action → List ℕ → Action
with_amounts a amounts = record { kind = a.kind; expires = a.expires; payload = take (mint_length a.kind) a.payload ++ amounts }

-- amounts with another number left
abbrev pub with_remaining : List ℕ → ℕ → List ℕ
with_remaining amounts n = with_number_at 8 amounts 0 n

-- amounts with another number spent and another last reset
abbrev pub with_spent : List ℕ → ℕ → ℕ → List ℕ
with_spent amounts spentNow resetNow = with_number_at 8 (with_number_at 8 amounts 8 spentNow) 24 resetNow

-- amounts after a change
abbrev pub changed_amounts : Change → List ℕ → List ℕ
changed_amounts Nothing amounts = amounts
changed_amounts (Remaining n) amounts = with_remaining amounts n
changed_amounts (Spent spentNow resetNow) amounts = with_spent amounts spentNow resetNow

-- an action after a change
unfoldable pub changed : Change → Action → Action
unfolding with_amounts amounts_of
changed change a = with_amounts a (changed_amounts change (amounts_of a))
