-- No other byte changes: a judged call changes at most the amounts of live limits that something is taken from.
-- A region is its actions, glued, and the region afterwards its changed actions, so this is shown of one action.
-- Assumes nothing.
use mathlib.Core.Path.{◌≡◌, refl, subst}
use mathlib.Core.Bool.{Bool, true, false, cond}
use mathlib.Core.List.{List, [], ◌∷◌, ◌++◌, map, flat_map}
use Prim.Native.Nat.{ℕ, zero, suc, ◌+◌}
use lib.ListN.{length, get_or}
use Rattle.answer.specs.Each.{Each}
use Rattle.answer.specs.Numbers.{accepts}
use Rattle.answer.specs.Refusable.{Ok}
use Rattle.number.specs.Number.{Bytes}
use Rattle.action.specs.Action.{Action}
use Rattle.action.specs.Fields.{mint_length, amounts_of}
use Rattle.action.proofs.Regular.{Regular}
use Rattle.change.specs.Changed.{changed}
use Rattle.region.specs.Region.{glue}
use Rattle.creation.specs.Creation.{stored_actions}
use Rattle.creation.proofs.Theorems.{stored_is_glued, stored_is_regular}
use Rattle.judge.specs.Judge.{Call, actions_of, amount_for, judged, region_after}
use Rattle.judge.proofs.Theorems.{a_refusal_leaves_the_region, what_is_accepted_is_in_stored_form, writes, region_written}
use Rattle.untouched.specs.MayChange.{may_not, of_amounts, of_action, may_change}
use Rattle.untouched.proofs.SameBut.{SameBut, ended, joined, all_kept, as_long, a_bool_for_each, same_there}
use Rattle.untouched.proofs.OneAction.{action_alone}

each_alone : (call : Call) (l : List Action) → Each Regular l → SameBut (flat_map (of_action call) l) (glue l) (glue (map (λ (a : Action). changed (writes call a) a) l))
unfolding glue flat_map
each_alone call [] h = ended
each_alone call (a ∷ l) h = joined (action_alone call h.0) (each_alone call l h.1)

accepted_alone : (region : List ℕ) (call : Call) (l : List Action) → Bytes region → stored_actions region ≡ Ok l → accepts (judged region call) ≡ true
    → SameBut (flat_map (of_action call) (actions_of (stored_actions region))) region (region_after region call)
accepted_alone region call l bytes stored h =
    rw (stored, region_written call region stored h)
    (subst (λ (s : List ℕ). SameBut (flat_map (of_action call) l) s (glue (map (λ (a : Action). changed (writes call a) a) l)))
    (stored_is_glued region l bytes stored)
    (each_alone call l (stored_is_regular region l bytes stored).0))

region_alone : (region : List ℕ) (call : Call) → Bytes region → SameBut (may_change region call) region (region_after region call)
unfolding may_change
region_alone region call bytes = go (accepts (judged region call)) refl
  where
    go : (t : Bool) → accepts (judged region call) ≡ t
        → SameBut (cond t (flat_map (of_action call) (actions_of (stored_actions region))) (may_not (length region))) region (region_after region call)
    go true h = let (l, stored) = what_is_accepted_is_in_stored_form region call h in accepted_alone region call l bytes stored h
    go false h = rw (a_refusal_leaves_the_region region call h) (all_kept (length region) region refl)

-- a byte that may not change is afterwards what it was
pub no_other_byte_changes : (region : List ℕ) (call : Call) → Bytes region → (i : ℕ) → get_or (may_change region call) i false ≡ false
    → get_or (region_after region call) i 0 ≡ get_or region i 0
no_other_byte_changes region call bytes i e = same_there (region_alone region call bytes) i e

-- no byte is added, and none is dropped
pub a_judged_call_keeps_the_length : (region : List ℕ) (call : Call) → Bytes region → length (region_after region call) ≡ length region
a_judged_call_keeps_the_length region call bytes = as_long (region_alone region call bytes)

-- it is said of each byte whether it may change
pub it_is_said_of_each_byte : (region : List ℕ) (call : Call) → Bytes region → length (may_change region call) ≡ length region
it_is_said_of_each_byte region call bytes = a_bool_for_each (region_alone region call bytes)

-- ---- a call that takes nothing

-- no byte may change
abbrev None : List Bool → Type 0
None m = (i : ℕ) → get_or m i false ≡ false

none_of : (n : ℕ) → None (may_not n)
none_of zero i = refl
none_of (suc n) zero = refl
none_of (suc n) (suc i) = none_of n i

none_of_both : (m n : List Bool) → None m → None n → None (m ++ n)
none_of_both [] n p q i = q i
none_of_both (b ∷ m) n p q zero = p 0
none_of_both (b ∷ m) n p q (suc i) = none_of_both m n (λ j. p (suc j)) q i

none_of_action : (call : Call) (a : Action) → amount_for call a ≡ 0 → None (of_action call a)
unfolding of_action of_amounts
none_of_action call a e =
    none_of_both (may_not (11 + mint_length a.kind)) (of_amounts call a) (none_of (11 + mint_length a.kind)) (rw e (none_of (length (amounts_of a))))

none_of_each : (call : Call) (l : List Action) → Each (λ (a : Action). amount_for call a ≡ 0) l → None (flat_map (of_action call) l)
unfolding flat_map
none_of_each call [] h = none_of 0
none_of_each call (a ∷ l) h =
    none_of_both (of_action call a) (flat_map (of_action call) l) (none_of_action call a h.0) (none_of_each call l h.1)

-- a call that takes nothing may change nothing
pub where_nothing_is_taken_no_byte_may_change : (region : List ℕ) (call : Call) → Each (λ (a : Action). amount_for call a ≡ 0) (actions_of (stored_actions region))
    → (i : ℕ) → get_or (may_change region call) i false ≡ false
unfolding may_change
where_nothing_is_taken_no_byte_may_change region call h = go (accepts (judged region call))
  where
    go : (t : Bool) → None (cond t (flat_map (of_action call) (actions_of (stored_actions region))) (may_not (length region)))
    go true = none_of_each call (actions_of (stored_actions region)) h
    go false = none_of (length region)
