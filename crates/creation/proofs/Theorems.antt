-- What is promised of regions beyond each function's contract.
-- Assumes nothing.
use mathlib.Core.Path.{◌≡◌, refl, sym, ap, ap₂, subst, ◌∙◌}
use mathlib.Core.Bool.{Bool, true, false, not, ◌&&◌, ◌||◌, and-eq-true_iff}
use mathlib.Core.List.{List, [], ◌∷◌, map}
use Prim.Native.Nat.{ℕ, ◌≤◌}
use native.Mathlib.Omega.{arith}
use borrow.Author.Tests.{eqb-true}
use lib.Dec.{eqb, ltb}
use lib.ListN.{length}
use Rattle.answer.specs.Each.{Each}
use Rattle.answer.specs.declared.Refusal.{Refusal}
use Rattle.answer.specs.declared.Refusal.TheVariants.{ActionBufferInvalid, ActionWhitelistBlacklistConflict, BadRegion}
use Rattle.answer.specs.Numbers.{accepts}
use Rattle.answer.specs.Refusable.{Refusable, Ok, Err}
use Rattle.number.specs.Number.{Bytes}
use Rattle.key.specs.Key.{same_key}
use Rattle.action.specs.Action.{Action}
use Rattle.action.specs.Fields.{is_token, is_recurring, key_of, amounts_of, spent, window, last_reset}
use Rattle.action.proofs.Regular.{Regular, mint_there}
use Rattle.change.specs.declared.Change.{Change}
use Rattle.change.specs.Changed.{changed}
use Rattle.change.proofs.Changing.{changed_kind, changed-length, changed_key, changed_regular, window_kept}
use Rattle.region.specs.Region.{cut, glue, most_actions}
use Rattle.region.proofs.Gluing.{regular_fit, glue-cut, cut-glue}
use Rattle.region.proofs.Cuts.{cut_cuts, cut_refuses, cut_at_most}
use Rattle.creation.specs.declared.Rule.{Rule}
use Rattle.creation.specs.declared.Rule.TheVariants.{Length, Fresh, Windowed}
use Rattle.creation.specs.Creation.{keeps, all_keep, kinds_of, both_lists, sol_repeats, mint_again, mint_repeats, form_of, creation, in_stored_form, stored_actions}
use Rattle.creation.proofs.Forms.{form_length, form_conflict, form_sol, form_mint, form_ending, form_kept}
use Rattle.creation.proofs.Lengths.{region_at_most, cut_regular}

-- what actions in form keep
pub record Formed (ending : Rule) (l : List Action) : Type 0 where
  pub lengths : all_keep Length l ≡ true
  pub one_kind_of_list : both_lists (kinds_of l) ≡ false
  pub one_of_each_sol_type : sol_repeats (kinds_of l) ≡ false
  pub one_of_each_token_type_for_a_mint : mint_repeats l ≡ false
  pub ended : all_keep ending l ≡ true

must_hold : (t : Bool) → (t ≡ false → ⊥) → t ≡ true
must_hold true h = refl
must_hold false h = absurd (h refl)

must_fail : (t : Bool) → (t ≡ true → ⊥) → t ≡ false
must_fail true h = absurd (h refl)
must_fail false h = refl

module _ (breach conflict : Refusal) (ending : Rule) (l : List Action) where
  module _ (h : accepts (form_of breach conflict ending l) ≡ true) where
    refutes : {r : Refusal} → form_of breach conflict ending l ≡ Err r → ⊥
    refutes e =
        let z : ◌≡◌ {A = Bool} true false = sym h ∙ ap accepts e in
        let q : ◌≡◌ {A = ℕ} 0 1 = cc in
        omega arith

    lengths_are : all_keep Length l ≡ true
    lengths_are = must_hold (all_keep Length l) (λ e. refutes (form_length breach conflict ending l e))

    lists_are : both_lists (kinds_of l) ≡ false
    lists_are = must_fail (both_lists (kinds_of l)) (λ e. refutes (form_conflict breach conflict ending l lengths_are e))

    sol_is : sol_repeats (kinds_of l) ≡ false
    sol_is = must_fail (sol_repeats (kinds_of l)) (λ e. refutes (form_sol breach conflict ending l lengths_are lists_are e))

    mints_are : mint_repeats l ≡ false
    mints_are = must_fail (mint_repeats l) (λ e. refutes (form_mint breach conflict ending l lengths_are lists_are sol_is e))

    ended_is : all_keep ending l ≡ true
    ended_is = must_hold (all_keep ending l) (λ e. refutes (form_ending breach conflict ending l lengths_are lists_are sol_is mints_are e))

    -- what an accepted form says
    pub formed : Formed ending l
    formed = record {
      lengths = lengths_are;
      one_kind_of_list = lists_are;
      one_of_each_sol_type = sol_is;
      one_of_each_token_type_for_a_mint = mints_are;
      ended = ended_is;
    }

pub in_form : (breach conflict : Refusal) (ending : Rule) (l : List Action) → Formed ending l
    → form_of breach conflict ending l ≡ Ok tt
in_form breach conflict ending l f =
    form_kept breach conflict ending l f.lengths f.one_kind_of_list f.one_of_each_sol_type f.one_of_each_token_type_for_a_mint f.ended

-- ---- creation and the stored form

fresh_is_windowed : (a : Action) → keeps Fresh a ≡ true → keeps Windowed a ≡ true
unfolding keeps
fresh_is_windowed a e = go (is_recurring a.kind) e
  where
    go : (r : Bool)
        → (not r || eqb (spent (amounts_of a)) 0 && ltb 0 (window (amounts_of a)) && eqb (last_reset (amounts_of a)) 0) ≡ true
        → (not r || ltb 0 (window (amounts_of a))) ≡ true
    go false h = refl
    go true h = ((and-eq-true_iff (eqb (spent (amounts_of a)) 0) _).0 ((and-eq-true_iff _ (eqb (last_reset (amounts_of a)) 0)).0 h).0).1

all_fresh_are_windowed : (l : List Action) → all_keep Fresh l ≡ true → all_keep Windowed l ≡ true
unfolding all_keep
all_fresh_are_windowed [] e = refl
all_fresh_are_windowed (a ∷ l) e =
    let (here, after) = (and-eq-true_iff (keeps Fresh a) _).0 e in
    (and-eq-true_iff (keeps Windowed a) _).1 (fresh_is_windowed a here, all_fresh_are_windowed l after)

module _ (s : List ℕ) where
  module _ {k : List Action} (is : cut most_actions s ≡ Ok k) where
    stored_given : in_stored_form k ≡ true → stored_actions s ≡ Ok k
    unfolding stored_actions
    stored_given h = rw (is, stored_actions) (rw h)

    stored_not : in_stored_form k ≡ false → stored_actions s ≡ Err BadRegion
    unfolding stored_actions
    stored_not h = rw (is, stored_actions) (rw h)

    creation_given : creation s ≡ form_of ActionBufferInvalid ActionWhitelistBlacklistConflict Fresh k
    unfolding creation
    creation_given = rw (is, creation)

  module _ {r : Refusal} (not-cut : cut most_actions s ≡ Err r) where
    stored_not_cut : stored_actions s ≡ Err BadRegion
    unfolding stored_actions
    stored_not_cut = rw (not-cut, stored_actions)

    creation_not_cut : creation s ≡ Err ActionBufferInvalid
    unfolding creation
    creation_not_cut = rw (not-cut, creation) (ap Err (cut_refuses most_actions s r not-cut))

apart : {l : List Action} {r : Refusal} {x : Refusable (List Action)} → x ≡ Ok l → x ≡ Err r → ⊥
apart p q = let z = sym p ∙ q in let n : ◌≡◌ {A = ℕ} 0 1 = cc in omega arith

stored_formed : (k : List Action) → in_stored_form k ≡ true → Formed Windowed k
unfolding in_stored_form
stored_formed k kept = formed BadRegion BadRegion Windowed k kept

pub formed_stored : (k : List Action) → Formed Windowed k → in_stored_form k ≡ true
unfolding in_stored_form
formed_stored k form = ap accepts (in_form BadRegion BadRegion Windowed k form)

-- the actions of a region in stored form are what it cuts into, in form
pub stored_is_formed : (s : List ℕ) (l : List Action) → stored_actions s ≡ Ok l → (cut most_actions s ≡ Ok l) × Formed Windowed l
stored_is_formed s l e = go (cut most_actions s) refl
  where
    go : (x : Refusable (List Action)) → cut most_actions s ≡ x → (cut most_actions s ≡ Ok l) × Formed Windowed l
    go (Err r) q = absurd (apart e (stored_not_cut s q))
    go (Ok k) q =
        let kept : in_stored_form k ≡ true = must_hold (in_stored_form k) (λ h. apart e (stored_not s q h)) in
        let eq : k ≡ l = let same = stored_given s q kept in cc in
        subst (λ (m : List Action). (cut most_actions s ≡ Ok m) × Formed Windowed m) eq (q, stored_formed k kept)

-- a region that creation accepted is in stored form
pub creation_accepted_is_stored : (s : List ℕ) → accepts (creation s) ≡ true → (l : List Action) × (stored_actions s ≡ Ok l) × Formed Fresh l
creation_accepted_is_stored s e = go (cut most_actions s) refl
  where
    go : (x : Refusable (List Action)) → cut most_actions s ≡ x → (l : List Action) × (stored_actions s ≡ Ok l) × Formed Fresh l
    go (Err r) q = absurd (let z : ◌≡◌ {A = Bool} true false = sym e ∙ ap accepts (creation_not_cut s q) in let n : ◌≡◌ {A = ℕ} 0 1 = cc in omega arith)
    go (Ok k) q =
        let fresh = formed ActionBufferInvalid ActionWhitelistBlacklistConflict Fresh k (sym (ap accepts (creation_given s q)) ∙ e) in
        let kept : Formed Windowed k = record {
          lengths = fresh.lengths;
          one_kind_of_list = fresh.one_kind_of_list;
          one_of_each_sol_type = fresh.one_of_each_sol_type;
          one_of_each_token_type_for_a_mint = fresh.one_of_each_token_type_for_a_mint;
          ended = all_fresh_are_windowed k fresh.ended;
        } in
        (k, stored_given s q (formed_stored k kept), fresh)

-- a region in stored form is at most 1,200 bytes
pub stored_at_most_1200 : (s : List ℕ) (l : List Action) → stored_actions s ≡ Ok l → length s ≤ 1200
stored_at_most_1200 s l e = let (is, form) = stored_is_formed s l e in region_at_most (cut_cuts most_actions s l is) form.lengths

-- a region in stored form is its actions, glued
pub stored_is_glued : (s : List ℕ) (l : List Action) → Bytes s → stored_actions s ≡ Ok l → glue l ≡ s
stored_is_glued s l bytes e = let (is, form) = stored_is_formed s l e in glue-cut (cut_cuts most_actions s l is) bytes

-- ---- changing the amounts of actions keeps them in form

-- what changes do to each of some actions
module _ (f : Action → Change) where
  abbrev each_changed : List Action → List Action
  each_changed l = map (λ (a : Action). changed (f a) a) l

  kinds_kept : (l : List Action) → kinds_of (each_changed l) ≡ kinds_of l
  kinds_kept [] = refl
  kinds_kept (a ∷ l) = ap₂ (λ (k : ℕ) (ks : List ℕ). k ∷ ks) (changed_kind (f a) a) (kinds_kept l)

  keeps-length : (a : Action) → keeps Length (changed (f a) a) ≡ keeps Length a
  unfolding keeps
  keeps-length a = rw (changed-length (f a) a, changed_kind (f a) a)

  keeps-window : (a : Action) → Regular a → keeps Windowed (changed (f a) a) ≡ keeps Windowed a
  unfolding keeps
  keeps-window a r =
      ap (λ (k : ℕ). not (is_recurring k) || ltb 0 (window (amounts_of (changed (f a) a)))) (changed_kind (f a) a) ∙ go (is_recurring a.kind) refl
    where
      go : (t : Bool) → is_recurring a.kind ≡ t → (not t || ltb 0 (window (amounts_of (changed (f a) a)))) ≡ (not t || ltb 0 (window (amounts_of a)))
      go true e = ap (ltb 0) (window_kept r e (f a))
      go false e = refl

  all_keep_lem : (rule : Rule) → ((a : Action) → Regular a → keeps rule (changed (f a) a) ≡ keeps rule a)
      → (l : List Action) → Each Regular l → all_keep rule (each_changed l) ≡ all_keep rule l
  unfolding all_keep
  all_keep_lem rule same [] rs = refl
  all_keep_lem rule same (a ∷ l) rs = ap₂ (λ (p q : Bool). p && q) (same a rs.0) (all_keep_lem rule same l rs.1)

  same_mint : (a b : Action) → Regular a → Regular b → is_token a.kind ≡ true
      → (eqb (changed (f b) b).kind (changed (f a) a).kind && same_key (key_of (changed (f b) b)) (key_of (changed (f a) a)))
      ≡ (eqb b.kind a.kind && same_key (key_of b) (key_of a))
  same_mint a b ra rb token =
      ap₂ (λ (x y : ℕ). eqb x y && same_key (key_of (changed (f b) b)) (key_of (changed (f a) a))) (changed_kind (f b) b) (changed_kind (f a) a)
      ∙ ap (λ (k : List ℕ). eqb b.kind a.kind && same_key (key_of (changed (f b) b)) k) (changed_key (f a) a (mint_there ra) token)
      ∙ go (eqb b.kind a.kind) refl
    where
      go : (t : Bool) → eqb b.kind a.kind ≡ t → (t && same_key (key_of (changed (f b) b)) (key_of a)) ≡ (t && same_key (key_of b) (key_of a))
      go true e = ap (λ (k : List ℕ). same_key k (key_of a)) (changed_key (f b) b (mint_there rb) (ap is_token (eqb-true _ _ e) ∙ token))
      go false e = refl

  mint_again_kept : (a : Action) → Regular a → is_token a.kind ≡ true → (l : List Action) → Each Regular l
      → mint_again (changed (f a) a) (each_changed l) ≡ mint_again a l
  unfolding mint_again
  mint_again_kept a ra token [] rs = refl
  mint_again_kept a ra token (b ∷ l) rs = ap₂ (λ (p q : Bool). p || q) (same_mint a b ra rs.0 token) (mint_again_kept a ra token l rs.1)

  mint_repeats_kept : (l : List Action) → Each Regular l → mint_repeats (each_changed l) ≡ mint_repeats l
  unfolding mint_repeats
  mint_repeats_kept [] rs = refl
  mint_repeats_kept (a ∷ l) rs =
      ap₂ (λ (p q : Bool). p || q)
      (ap (λ (k : ℕ). is_token k && mint_again (changed (f a) a) (each_changed l)) (changed_kind (f a) a) ∙ go (is_token a.kind) refl)
      (mint_repeats_kept l rs.1)
    where
      go : (t : Bool) → is_token a.kind ≡ t → (t && mint_again (changed (f a) a) (each_changed l)) ≡ (t && mint_again a l)
      go true e = mint_again_kept a rs.0 e l rs.1
      go false e = refl

  pub formed_changed : (l : List Action) → Each Regular l → Formed Windowed l → Formed Windowed (each_changed l)
  formed_changed l rs form = record {
    lengths = all_keep_lem Length (λ a r. keeps-length a) l rs ∙ form.lengths;
    one_kind_of_list = ap both_lists (kinds_kept l) ∙ form.one_kind_of_list;
    one_of_each_sol_type = ap sol_repeats (kinds_kept l) ∙ form.one_of_each_sol_type;
    one_of_each_token_type_for_a_mint = mint_repeats_kept l rs ∙ form.one_of_each_token_type_for_a_mint;
    ended = all_keep_lem Windowed keeps-window l rs ∙ form.ended;
  }

  pub regular_changed : (l : List Action) → Each Regular l → Each Regular (each_changed l)
  regular_changed [] rs = tt
  regular_changed (a ∷ l) rs = (changed_regular rs.0 (f a), regular_changed l rs.1)

-- regular actions in form, at most 16, are those of the region that they glue to
pub glued_is_stored : (l : List Action) → Each Regular l → Formed Windowed l → length l ≤ 16 → stored_actions (glue l) ≡ Ok l
glued_is_stored l rs form few = stored_given (glue l) (cut-glue most_actions l (regular_fit l rs) few) (formed_stored l form)

-- the actions of a region of bytes in stored form are regular, and at most 16
pub stored_is_regular : (s : List ℕ) (l : List Action) → Bytes s → stored_actions s ≡ Ok l → Each Regular l × (length l ≤ 16)
stored_is_regular s l bytes e =
    let (is, form) = stored_is_formed s l e in
    let cuts = cut_cuts most_actions s l is in
    (cut_regular cuts bytes form.lengths, cut_at_most cuts)
