-- The limits of a region by what they speak of, and the terms of its actions that no call changes.
-- Assumes nothing.
use Rattle.std.specs.Prelude.{ℕ, ◌+◌, ◌*◌, ◌<◌, ◌≡◌, Bool, true, false, cond, ◌&&◌, List, [], ◌∷◌, map, eqb, length, take}
use Rattle.std.proofs.Math.Option.{Option, none, some}
use Rattle.key.specs.Key.{same_key}
use Rattle.action.specs.Action.{Action, sol_limit, token_limit, sol_recurring_limit, token_recurring_limit}
use Rattle.action.specs.Fields.{is_token, is_recurring, key_of, mint_length, amounts_of, limit, window, last_reset}
use Rattle.creation.specs.Creation.{stored_actions}
use Rattle.limit.specs.Limit.{is_limit}
use Rattle.judge.specs.Judge.{Call, actions_of}
use Rattle.bursar.specs.Run.{Judge, Fund, sol, tokens, taken_where}

-- the actions of a region
abbrev pub region_actions : List ℕ → List Action
region_actions region = actions_of (stored_actions region)

-- whether an action speaks of a fund, as SOL's type or as the tokens' type
unfoldable pub speaks_of : ℕ → ℕ → Fund → Action → Bool
speaks_of solType tokenType sol a = eqb a.kind solType
speaks_of solType tokenType (tokens mint) a = eqb a.kind tokenType && same_key (key_of a) mint

-- what an action speaks of, where it is a limit: the tokens of its mint, or SOL
unfoldable pub fund_of : Action → Fund
fund_of a = cond (is_token a.kind) (tokens (key_of a)) sol

-- the SolLimit, or the TokenLimit of a mint
abbrev pub is_limit_of : Fund → Action → Bool
is_limit_of fund a = speaks_of sol_limit token_limit fund a

-- the SolRecurringLimit, or the TokenRecurringLimit of a mint
abbrev pub is_recurring_of : Fund → Action → Bool
is_recurring_of fund a = speaks_of sol_recurring_limit token_recurring_limit fund a

-- the first action that passes a test
unfoldable pub first_that : (Action → Bool) → List Action → Option Action
first_that test [] = none
first_that test (a ∷ l) = elim (test a) [ true ↦ some a | false ↦ first_that test l ]

-- how many pass it
unfoldable pub how_many : (Action → Bool) → List Action → ℕ
how_many test [] = 0
how_many test (a ∷ l) = cond (test a) 1 0 + how_many test l

-- the amounts of a fund's limit in a region, and of its recurring limit; nothing where there is none
abbrev pub amounts_in : Option Action → Option (List ℕ)
amounts_in none = none
amounts_in (some a) = some (amounts_of a)

unfoldable pub limit_of : Fund → List ℕ → Option (List ℕ)
unfolding first_that
limit_of fund region = amounts_in (first_that (is_limit_of fund) (region_actions region))

unfoldable pub recurring_of : Fund → List ℕ → Option (List ℕ)
unfolding first_that
recurring_of fund region = amounts_in (first_that (is_recurring_of fund) (region_actions region))

-- an action is not left out: of type 1 or 4 it is the limit of its fund, of type 2 or 5 its recurring limit
abbrev pub IsNotLeftOut : List ℕ → Action → Type 0
IsNotLeftOut region a =
    (is_limit a.kind ≡ true → limit_of (fund_of a) region ≡ some (amounts_of a))
    × (is_recurring a.kind ≡ true → recurring_of (fund_of a) region ≡ some (amounts_of a))

-- whether a recurring limit was last reset at a slot
abbrev pub reset_at : ℕ → Option (List ℕ) → Bool
reset_at slot none = false
reset_at slot (some amounts) = eqb (last_reset amounts) slot

-- what the accepted calls of a run take from a fund that leave the last reset of its recurring limit at a slot
abbrev pub taken_at : ℕ → Fund → Judge → List ℕ → List Call → ℕ
taken_at slot fund judge region calls = taken_where (λ (after : List ℕ). reset_at slot (recurring_of fund after)) fund judge region calls

-- a last reset stays, or moves to a later multiple of the window
pub data Moves (window before after : ℕ) : Type 0 where
  stays : after ≡ before → Moves window before after
  later : before < after → (n : ℕ) → after ≡ n * window → Moves window before after

-- ---- terms

-- what is fixed of an action's amounts: the limit and the length of a window; of a limit nothing; else all
unfoldable pub fixed_amounts : Action → List ℕ
fixed_amounts a = cond (is_recurring a.kind) (limit (amounts_of a) ∷ window (amounts_of a) ∷ []) (cond (is_limit a.kind) [] (amounts_of a))

-- what is fixed of an action: its type, its expiry, its data's length, its mint and what is fixed of its amounts
pub record Terms : Type 0 where
  pub kind : ℕ
  pub expires : ℕ
  pub size : ℕ
  pub mint : List ℕ
  pub amounts : List ℕ

unfoldable pub terms_of : Action → Terms
unfolding fixed_amounts
terms_of a =
    record { kind = a.kind; expires = a.expires; size = length a.payload; mint = take (mint_length a.kind) a.payload; amounts = fixed_amounts a }

-- the terms of a region's actions, in order
abbrev pub terms_in : List ℕ → List Terms
terms_in region = map terms_of (region_actions region)
