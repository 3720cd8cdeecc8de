-- No limit is left out: each action that is a limit is the one of its fund, since a fund has at most one.
-- Assumes nothing.
use mathlib.Core.Path.{◌≡◌, refl, sym, ap, subst, ◌∙◌}
use mathlib.Core.Bool.{Bool, true, false, cond, ◌||◌}
use mathlib.Core.List.{List, [], ◌∷◌}
use mathlib.Core.Option.{some}
use Prim.Native.Nat.{ℕ, ◌+◌, ◌≤◌}
use native.Mathlib.Omega.{arith}
use borrow.Author.Tests.{eqb-true}
use lib.Dec.{eqb}
use Rattle.answer.specs.Each.{Each}
use Rattle.answer.proofs.Each.{each_so}
use Rattle.key.proofs.Laws.{same_key_refl}
use Rattle.action.specs.Action.{Action}
use Rattle.action.specs.Fields.{is_token, is_recurring, key_of}
use Rattle.creation.specs.declared.Rule.TheVariants.{Length}
use Rattle.creation.specs.Creation.{keeps}
use Rattle.creation.proofs.Theorems.{stored_is_formed}
use Rattle.mints.proofs.Held.{mint_size}
use Rattle.limit.specs.Limit.{is_limit}
use Rattle.judge.specs.Judge.{Call, actions_of}
use Rattle.bursar.specs.Run.{Created, ours, after_run, Fund, sol, tokens}
use Rattle.bursar.specs.Limits.{region_actions, speaks_of, fund_of, is_limit_of, is_recurring_of, first_that, how_many, amounts_in, limit_of, recurring_of, IsNotLeftOut}
use Rattle.bursar.proofs.OneCall.{Pair, each_keeps, found_here, found_later, none_found, apart}
use Rattle.bursar.proofs.Theorems.{created_stands, stands_through, limits, recurrings, a_fund_has_one_limit}

each_both : (P Q : Action → Type 0) (l : List Action) → Each P l → Each Q l → Each (λ (a : Action). P a × Q a) l
each_both P Q [] ps qs = tt
each_both P Q (a ∷ l) ps qs = ((ps.0, qs.0), each_both P Q l ps.1 qs.1)

-- what is found counts
counted : (test : Action → Bool) (l : List Action) (a : Action) → first_that test l ≡ some a → 1 ≤ how_many test l
unfolding how_many
counted test [] a e = absurd (apart (sym (none_found test) ∙ e))
counted test (b ∷ l) a e = go (counted test l a) (test b) refl
  where
    go : (first_that test l ≡ some a → 1 ≤ how_many test l) → (t : Bool) → test b ≡ t → 1 ≤ cond (test b) 1 0 + how_many test l
    go rest true h = rw h (omega arith)
    go rest false h = rw h (let more = rest (sym (found_later test b l h) ∙ e) in omega (arith, more))

-- where no test of an action's own is passed twice, each that passes its own is the first to
each_is_first : (own : Action → Action → Bool) (l : List Action) → ((a : Action) → how_many (own a) l ≤ 1)
    → Each (λ (a : Action). own a a ≡ true → first_that (own a) l ≡ some a) l
unfolding how_many
each_is_first own [] few = tt
each_is_first own (b ∷ l) few = (λ h. found_here (own b) b l h, each_so later l (each_is_first own l fewer))
  where
    fewer : (a : Action) → how_many (own a) l ≤ 1
    fewer a = let all = few a in omega (arith, all)

    later : (a : Action) → (own a a ≡ true → first_that (own a) l ≡ some a) → own a a ≡ true → first_that (own a) (b ∷ l) ≡ some a
    later a first h = go (own a b) refl (few a)
      where
        go : (t : Bool) → own a b ≡ t → cond (own a b) 1 0 + how_many (own a) l ≤ 1 → first_that (own a) (b ∷ l) ≡ some a
        go true e all = absurd (let one = counted (own a) l a (first h) in let two : 1 + how_many (own a) l ≤ 1 = rw e at all in omega (arith, one, two))
        go false e all = found_later (own a) b l e ∙ first h

module _ {s t : ℕ} (pair : Pair s t) where
  -- an action of one of two types speaks of its fund
  speaks_of_its_own : (a : Action) → keeps Length a ≡ true → (eqb a.kind s || eqb a.kind t) ≡ true → speaks_of s t (fund_of a) a ≡ true
  unfolding speaks_of fund_of
  speaks_of_its_own a sized is = go (eqb a.kind s) (eqb a.kind t) refl refl is
    where
      go : (x y : Bool) → eqb a.kind s ≡ x → eqb a.kind t ≡ y → (x || y) ≡ true → speaks_of s t (fund_of a) a ≡ true
      go true y ex ey h =
          let of_sol : is_token a.kind ≡ false = ap is_token (eqb-true _ _ ex) ∙ pair.not_token in
          ap (λ (b : Bool). speaks_of s t (cond b (tokens (key_of a)) sol) a) of_sol ∙ ex
      go false true ex ey h =
          let of_tokens : is_token a.kind ≡ true = ap is_token (eqb-true _ _ ey) ∙ pair.token in
          ap (λ (b : Bool). speaks_of s t (cond b (tokens (key_of a)) sol) a) of_tokens
          ∙ rw (ey, same_key_refl (key_of a) (mint_size a sized of_tokens))
      go false false ex ey h = absurd (let n : ◌≡◌ {A = ℕ} 0 1 = cc in omega arith)

module _ (region : List ℕ) (calls : List Call) (created : Created region) where
  abbrev After : List ℕ
  After = after_run ours region calls

  abbrev Sized : Action → Type 0
  Sized a = keeps Length a ≡ true

  abbrev First : (Fund → Action → Bool) → Action → Type 0
  First speaks a = speaks (fund_of a) a ≡ true → first_that (speaks (fund_of a)) (region_actions After) ≡ some a

  -- every action of type 1 or 4 is the limit of its fund, and every one of type 2 or 5 its recurring limit
  pub no_limit_is_left_out : Each (IsNotLeftOut After) (region_actions After)
  unfolding limit_of recurring_of is_limit is_recurring
  no_limit_is_left_out =
      let st = stands_through calls region (created_stands region created) in
      let is : region_actions After ≡ st.actions = ap actions_of st.stored in
      let sized : Each Sized (region_actions After) = subst (Each Sized) (sym is) (each_keeps Length st.actions (stored_is_formed After st.actions st.stored).1.lengths) in
      let one-limit = each_is_first (λ (a : Action). is_limit_of (fund_of a)) (region_actions After) (λ a. (a_fund_has_one_limit region calls created (fund_of a)).0) in
      let one-recurring = each_is_first (λ (a : Action). is_recurring_of (fund_of a)) (region_actions After) (λ a. (a_fund_has_one_limit region calls created (fund_of a)).1) in
      let both = each_both (First is_limit_of) (First is_recurring_of) (region_actions After) one-limit one-recurring in
      each_so
      (λ a facts. (
        λ h. ap amounts_in (facts.1.0 (speaks_of_its_own limits a facts.0 h)),
        λ h. ap amounts_in (facts.1.1 (speaks_of_its_own recurrings a facts.0 h)),
      ))
      (region_actions After) (each_both Sized (λ (a : Action). First is_limit_of a × First is_recurring_of a) (region_actions After) sized both)
