-- What creation asks of a region's actions, and the stored form: rules (a) to (f), the first breach deciding.
-- Assumes nothing.
use Rattle.std.specs.Prelude.{ℕ, ◌+◌, Bool, true, false, not, cond, ◌&&◌, ◌||◌, List, [], ◌∷◌, map, eqb, ltb, length}
use Rattle.answer.specs.declared.Refusal.{Refusal}
use Rattle.answer.specs.declared.Refusal.TheVariants.{ActionBufferInvalid, ActionWhitelistBlacklistConflict, BadRegion}
use Rattle.answer.specs.Numbers.{Answer, accepts, first_refusal, refuse_if}
use Rattle.answer.specs.Refusable.{Refusable, Ok, Err}
use Rattle.key.specs.Key.{same_key}
use Rattle.action.specs.Action.{Action, data_length, sol_limit, sol_recurring_limit, sol_max_per_tx, program_whitelist, program_blacklist}
use Rattle.action.specs.Fields.{is_token, is_recurring, key_of, amounts_of, spent, window, last_reset}
use Rattle.region.specs.Region.{cut, most_actions}
use Rattle.creation.specs.declared.Rule.{Rule}
use Rattle.creation.specs.declared.Rule.TheVariants.{Length, Fresh, Windowed}

-- whether an action keeps a rule of its own: its length is as listed; a window is above 0, and nothing is spent or reset yet; a window is above 0
unfoldable pub keeps : Rule → Action → Bool
keeps Length a = eqb (length a.payload) (data_length a.kind)
keeps Fresh a =
    not (is_recurring a.kind) || eqb (spent (amounts_of a)) 0 && ltb 0 (window (amounts_of a)) && eqb (last_reset (amounts_of a)) 0
keeps Windowed a = not (is_recurring a.kind) || ltb 0 (window (amounts_of a))

-- whether all keep it
unfoldable pub all_keep : Rule → List Action → Bool
unfolding keeps
all_keep rule [] = true
all_keep rule (a ∷ l) = keeps rule a && all_keep rule l

-- the types' codes of some actions
abbrev pub kinds_of : List Action → List ℕ
kinds_of l = map (λ (a : Action). a.kind) l

-- how often a code is among some
unfoldable pub how_often : ℕ → List ℕ → ℕ
how_often code [] = 0
how_often code (c ∷ cs) = cond (eqb c code) 1 0 + how_often code cs

-- whether both kinds of list are among some types' codes
unfoldable pub both_lists : List ℕ → Bool
unfolding how_often
both_lists kinds = ltb 0 (how_often program_whitelist kinds) && ltb 0 (how_often program_blacklist kinds)

-- whether there is a second action of one SOL type
unfoldable pub sol_repeats : List ℕ → Bool
unfolding how_often
sol_repeats kinds = ltb 1 (how_often sol_limit kinds) || ltb 1 (how_often sol_recurring_limit kinds) || ltb 1 (how_often sol_max_per_tx kinds)

-- whether one of some actions has a's type and a's mint
unfoldable pub mint_again : Action → List Action → Bool
mint_again a [] = false
mint_again a (b ∷ l) = eqb b.kind a.kind && same_key (key_of b) (key_of a) || mint_again a l

-- whether two actions of one token type have one mint
unfoldable pub mint_repeats : List Action → Bool
unfolding mint_again
mint_repeats [] = false
mint_repeats (a ∷ l) = is_token a.kind && mint_again a l || mint_repeats l

-- the first breach of (b) to (e) and of the rule that ends the list, each with its number
unfoldable pub form_of : Refusal → Refusal → Rule → List Action → Answer
unfolding all_keep both_lists sol_repeats mint_repeats
form_of breach conflict ending l =
    first_refusal
    (refuse_if (not (all_keep Length l)) breach
    ∷ refuse_if (both_lists (kinds_of l)) conflict
    ∷ refuse_if (sol_repeats (kinds_of l)) breach
    ∷ refuse_if (mint_repeats l) breach
    ∷ refuse_if (not (all_keep ending l)) breach
    ∷ [])

-- what creation answers
unfoldable pub creation : List ℕ → Answer
unfolding cut form_of
creation s =
    elim (cut most_actions s) [
      | Ok l ↦ form_of ActionBufferInvalid ActionWhitelistBlacklistConflict Fresh l
      | Err r ↦ Err r
    ]

-- whether actions are in stored form
unfoldable pub in_stored_form : List Action → Bool
unfolding form_of
in_stored_form l = accepts (form_of BadRegion BadRegion Windowed l)

-- the actions of a region in stored form; any breach is one refusal
unfoldable pub stored_actions : List ℕ → Refusable (List Action)
unfolding cut in_stored_form
stored_actions s =
    elim (cut most_actions s) [
      | Ok l ↦ elim (in_stored_form l) [ true ↦ Ok l | false ↦ Err BadRegion ]
      | Err r ↦ Err BadRegion
    ]
