-- `creation::form` meets its contract: the tests stand in the order of the rules, and the first breach decides.
-- Assumes nothing.
use mathlib.Core.Path.{◌≡◌, sym, ◌∙◌, ap}
use mathlib.Core.Bool.{Bool}
use mathlib.Core.List.{List}
use Prim.Native.Nat.{ℕ}
use Rattle.action.specs.declared.ActionView.{ActionView}
use Rattle.row.specs.Views.{actions_in, kinds_in}
use Rattle.creation.specs.Creation.{kinds_of, both_lists, sol_repeats}
use Rattle.creation.proofs.Scanning.{kinds_of_actions}
use Rattle.creation.proofs.Forms.{form_length, form_conflict, form_sol, form_mint, form_ending, form_kept}
use Rattle.creation.proofs.form.Goals as goal

-- a test of the types' codes, asked of a row of actions
by_kinds : (test : List ℕ → Bool) (s : List ℕ) (views : List ActionView) {asked told : Bool} → asked ≡ test (kinds_in views) → asked ≡ told
    → test (kinds_of (actions_in s views)) ≡ told
by_kinds test s views e is = ap test (kinds_of_actions s views) ∙ sym e ∙ is

pub returns-then-not-all_keep : goal.returns-then-not-all_keep
returns-then-not-all_keep c =
    sym (form_length _ _ _ _ (sym c.all_keep.ensures ∙ c.if-not-all_keep.true))

pub returns-then-both_lists : goal.returns-then-both_lists
returns-then-both_lists c =
    sym
    (form_conflict _ _ _ _ (sym c.all_keep.ensures ∙ c.if-not-all_keep.false)
    (by_kinds both_lists _ _ c.both_lists.ensures c.if-both_lists.true))

pub returns-then-sol_repeats : goal.returns-then-sol_repeats
returns-then-sol_repeats c =
    sym
    (form_sol _ _ _ _ (sym c.all_keep.ensures ∙ c.if-not-all_keep.false)
    (by_kinds both_lists _ _ c.both_lists.ensures c.if-both_lists.false)
    (by_kinds sol_repeats _ _ c.sol_repeats.ensures c.if-sol_repeats.true))

pub returns-then-mint_repeats : goal.returns-then-mint_repeats
returns-then-mint_repeats c =
    sym
    (form_mint _ _ _ _ (sym c.all_keep.ensures ∙ c.if-not-all_keep.false)
    (by_kinds both_lists _ _ c.both_lists.ensures c.if-both_lists.false)
    (by_kinds sol_repeats _ _ c.sol_repeats.ensures c.if-sol_repeats.false)
    (sym c.mint_repeats.ensures ∙ c.if-mint_repeats.true))

pub returns-then-not-all_keep-2 : goal.returns-then-not-all_keep-2
returns-then-not-all_keep-2 c =
    sym
    (form_ending _ _ _ _ (sym c.all_keep.ensures ∙ c.if-not-all_keep.false)
    (by_kinds both_lists _ _ c.both_lists.ensures c.if-both_lists.false)
    (by_kinds sol_repeats _ _ c.sol_repeats.ensures c.if-sol_repeats.false)
    (sym c.mint_repeats.ensures ∙ c.if-mint_repeats.false)
    (sym c.all_keep-2.ensures ∙ c.if-not-all_keep-2.true))

pub returns : goal.returns
returns c =
    sym
    (form_kept _ _ _ _ (sym c.all_keep.ensures ∙ c.if-not-all_keep.false)
    (by_kinds both_lists _ _ c.both_lists.ensures c.if-both_lists.false)
    (by_kinds sol_repeats _ _ c.sol_repeats.ensures c.if-sol_repeats.false)
    (sym c.mint_repeats.ensures ∙ c.if-mint_repeats.false)
    (sym c.all_keep-2.ensures ∙ c.if-not-all_keep-2.false))
