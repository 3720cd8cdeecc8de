-- Laws of creation and of the stored form: the first breach decides, and a region that was cut is judged by its views.
-- Assumes nothing.
use mathlib.Core.Path.{◌≡◌, refl, sym, ap, ◌∙◌}
use mathlib.Core.Bool.{Bool, true, false, not}
use mathlib.Core.List.{List, [], ◌∷◌}
use Prim.Native.Nat.{ℕ}
use native.Mathlib.Omega.{arith}
use Rattle.arrayvec.specs.ArrayVec.{ArrayVec}
use Rattle.answer.specs.declared.Refusal.{Refusal}
use Rattle.answer.specs.declared.Refusal.TheVariants.{ActionBufferInvalid, ActionWhitelistBlacklistConflict, BadRegion}
use Rattle.answer.specs.Numbers.{accepts, first_refusal, refuse_if}
use Rattle.answer.specs.Refusable.{Refusable, Ok, Err}
use Rattle.answer.proofs.Laws.{rule_holds, rule_broken, no_rule}
use Rattle.action.specs.declared.ActionView.{ActionView}
use Rattle.action.specs.Action.{Action}
use Rattle.row.specs.Views.{actions_in}
use Rattle.region.specs.Region.{cut, most_actions}
use Rattle.region.specs.Views.{action_views_from, views_of}
use Rattle.region.proofs.Cuts.{actions_of_views}
use Rattle.creation.specs.declared.Rule.{Rule}
use Rattle.creation.specs.declared.Rule.TheVariants.{Length, Fresh, Windowed}
use Rattle.creation.specs.Creation.{all_keep, kinds_of, both_lists, sol_repeats, mint_repeats, form_of, creation, in_stored_form, stored_actions}
use Rattle.creation.specs.Views.{stored_answer}

module _ (breach conflict : Refusal) (ending : Rule) (l : List Action) where
  pub form_length : all_keep Length l ≡ false → form_of breach conflict ending l ≡ Err breach
  unfolding form_of
  form_length e = rule_broken _ _ _ (ap not e)

  module _ (b : all_keep Length l ≡ true) where
    pub form_conflict : both_lists (kinds_of l) ≡ true → form_of breach conflict ending l ≡ Err conflict
    unfolding form_of
    form_conflict e = rule_holds _ _ _ (ap not b) ∙ rule_broken _ _ _ e

    module _ (c : both_lists (kinds_of l) ≡ false) where
      pub form_sol : sol_repeats (kinds_of l) ≡ true → form_of breach conflict ending l ≡ Err breach
      unfolding form_of
      form_sol e = rule_holds _ _ _ (ap not b) ∙ rule_holds _ _ _ c ∙ rule_broken _ _ _ e

      module _ (d : sol_repeats (kinds_of l) ≡ false) where
        pub form_mint : mint_repeats l ≡ true → form_of breach conflict ending l ≡ Err breach
        unfolding form_of
        form_mint e = rule_holds _ _ _ (ap not b) ∙ rule_holds _ _ _ c ∙ rule_holds _ _ _ d ∙ rule_broken _ _ _ e

        module _ (m : mint_repeats l ≡ false) where
          pub form_ending : all_keep ending l ≡ false → form_of breach conflict ending l ≡ Err breach
          unfolding form_of
          form_ending e = rule_holds _ _ _ (ap not b) ∙ rule_holds _ _ _ c ∙ rule_holds _ _ _ d ∙ rule_holds _ _ _ m ∙ rule_broken _ _ _ (ap not e)

          pub form_kept : all_keep ending l ≡ true → form_of breach conflict ending l ≡ Ok tt
          unfolding form_of
          form_kept e = rule_holds _ _ _ (ap not b) ∙ rule_holds _ _ _ c ∙ rule_holds _ _ _ d ∙ rule_holds _ _ _ m ∙ rule_holds _ _ _ (ap not e) ∙ no_rule

-- with one refusal for every breach, the form is that refusal where it does not accept
one_refusal : (r : Refusal) (a b c d e : Bool)
    → first_refusal (refuse_if a r ∷ refuse_if b r ∷ refuse_if c r ∷ refuse_if d r ∷ refuse_if e r ∷ [])
    ≡ refuse_if (not (accepts (first_refusal (refuse_if a r ∷ refuse_if b r ∷ refuse_if c r ∷ refuse_if d r ∷ refuse_if e r ∷ [])))) r
unfolding first_refusal
one_refusal r true b c d e = refl
one_refusal r false true c d e = refl
one_refusal r false false true d e = refl
one_refusal r false false false true e = refl
one_refusal r false false false false true = refl
one_refusal r false false false false false = refl

-- what a judged call answers to actions, where cutting them has an answer
module _ (l : List Action) where
  pub answer_not_cut : (r : Refusal) → stored_answer (Err r) l ≡ Err BadRegion
  unfolding stored_answer
  answer_not_cut r = refl

  pub answer_by_form : {u : Unit {0}} → form_of BadRegion BadRegion Windowed l ≡ stored_answer (Ok u) l
  unfolding form_of in_stored_form stored_answer
  answer_by_form = one_refusal BadRegion _ _ _ _ _

-- ---- a region that was cut

module _ (s : List ℕ) where
  module _ (views : ArrayVec ActionView) (e : views_of (cut most_actions s) ≡ Ok views) where
    go : (x : Refusable (List Action)) → cut most_actions s ≡ x → cut most_actions s ≡ Ok (actions_in s views.items)
    unfolding views_of
    go (Ok l) q =
        let same : views ≡ record { items = action_views_from 0 l } = let laid = ap views_of q in cc in
        q ∙ ap Ok (rw same (sym (actions_of_views s l q)))
    go (Err r) q = let none = ap views_of q in absurd (let z : ◌≡◌ {A = ℕ} 0 1 = cc in omega arith)

    is_cut : cut most_actions s ≡ Ok (actions_in s views.items)
    is_cut = go (cut most_actions s) refl

    -- the views are laid as the actions are
    pub views_laid : views.items ≡ action_views_from 0 (actions_in s views.items)
    unfolding views_of
    views_laid = let laid = sym e ∙ ap views_of is_cut in cc

    pub creation_by_form : creation s ≡ form_of ActionBufferInvalid ActionWhitelistBlacklistConflict Fresh (actions_in s views.items)
    unfolding creation
    creation_by_form = rw (is_cut, creation)

    -- what a judged call answers to the actions says whether the region is in stored form
    pub stored_given : in_stored_form (actions_in s views.items) ≡ true → stored_actions s ≡ Ok (actions_in s views.items)
    unfolding stored_actions
    stored_given f = rw (is_cut, stored_actions) (rw f)

    pub stored_not_given : in_stored_form (actions_in s views.items) ≡ false → stored_actions s ≡ Err BadRegion
    unfolding stored_actions
    stored_not_given f = rw (is_cut, stored_actions) (rw f)

  module _ (r : Refusal) (e : views_of (cut most_actions s) ≡ Err r) where
    stopped : (x : Refusable (List Action)) → cut most_actions s ≡ x → cut most_actions s ≡ Err r
    unfolding views_of
    stopped (Ok l) q = let laid = ap views_of q in absurd (let z : ◌≡◌ {A = ℕ} 0 1 = cc in omega arith)
    stopped (Err w) q = let none = ap views_of q in q ∙ ap Err cc

    not_cut : cut most_actions s ≡ Err r
    not_cut = stopped (cut most_actions s) refl

    pub creation_refused : creation s ≡ Err r
    unfolding creation
    creation_refused = rw (not_cut, creation)

    pub stored_refused : stored_actions s ≡ Err BadRegion
    unfolding stored_actions
    stored_refused = rw (not_cut, stored_actions)
