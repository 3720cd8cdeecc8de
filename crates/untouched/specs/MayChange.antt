-- Step 9, 'no other byte changes': which bytes of a region a judged call may change, a Bool for each.
-- Assumes nothing.
use Rattle.std.specs.Prelude.{ℕ, ◌+◌, Bool, true, false, not, cond, ◌&&◌, ltb, length, replicate}
use mathlib.Core.List.{List, ◌++◌, flat_map}
use Rattle.answer.specs.Numbers.{accepts}
use Rattle.action.specs.Action.{Action, expired}
use Rattle.action.specs.Fields.{is_recurring, mint_length, amounts_of}
use Rattle.region.specs.Region.{header_length}
use Rattle.creation.specs.Creation.{stored_actions}
use Rattle.limit.specs.Limit.{window_over, is_limit}
use Rattle.judge.specs.Judge.{Call, actions_of, amount_for, judged}

-- so many bytes that may change
abbrev pub may : ℕ → List Bool
may n = replicate n true

-- so many that may not
abbrev pub may_not : ℕ → List Bool
may_not n = replicate n false

-- of the amounts of a live limit that something is taken from: what is left; or what is spent and, where the window is over, the last reset
unfoldable pub of_limit : ℕ → Action → List Bool
of_limit slot a =
    cond (is_recurring a.kind) (may_not 8 ++ may 8 ++ may_not 8 ++ replicate 8 (window_over slot (amounts_of a)))
    (cond (is_limit a.kind) (may 8) (may_not (length (amounts_of a))))

-- of an action's amounts: none for an amount of 0 or of what is expired
unfoldable pub of_amounts : Call → Action → List Bool
unfolding of_limit
of_amounts call a =
    cond (ltb 0 (amount_for call a) && not (expired a.expires call.slot)) (of_limit call.slot a) (may_not (length (amounts_of a)))

-- of an action: none of its header and its mint
unfoldable pub of_action : Call → Action → List Bool
unfolding of_amounts
of_action call a = may_not (header_length + mint_length a.kind) ++ of_amounts call a

-- of a region: of its actions, one after the other, and none where the call is refused
unfoldable pub may_change : List ℕ → Call → List Bool
unfolding of_action
may_change region call =
    cond (accepts (judged region call)) (flat_map (of_action call) (actions_of (stored_actions region))) (may_not (length region))
