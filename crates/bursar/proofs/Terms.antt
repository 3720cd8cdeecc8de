-- No call changes the terms of an action, and at most one action of a region in form speaks of a fund.
-- Assumes nothing.
use mathlib.Core.Path.{◌≡◌, refl, sym, ap, ap₂, subst, ◌∙◌}
use mathlib.Core.Bool.{Bool, true, false, not, cond, ◌&&◌, ◌||◌, and-eq-true_iff}
use mathlib.Core.List.{List, [], ◌∷◌, map}
use Prim.Native.Nat.{ℕ, ◌+◌, ◌≤◌}
use native.Mathlib.Omega.{arith}
use borrow.Author.Tests.{eqb-true}
use lib.Dec.{eqb, ltb}
use lib.ListN.{length, take}
use Rattle.answer.specs.Each.{Each}
use Rattle.answer.specs.Numbers.{accepts}
use Rattle.key.specs.Key.{same_key}
use Rattle.key.proofs.Laws.{same_key_eq}
use Rattle.action.specs.Action.{Action, expired}
use Rattle.action.specs.Fields.{is_token, is_recurring, key_of, mint_length, amounts_of, limit, window}
use Rattle.action.proofs.Regular.{mint_there}
use Rattle.change.specs.declared.Change.{Change}
use Rattle.change.specs.declared.Change.TheVariants.{Nothing}
use Rattle.change.specs.Changed.{changed_amounts}
use Rattle.change.proofs.Changing.{changed_kind, changed_expires, changed-length, changed_mint, changed_amounts_lem, window_kept}
use Rattle.creation.specs.declared.Rule.TheVariants.{Windowed}
use Rattle.creation.specs.Creation.{kinds_of, how_often, mint_again, mint_repeats}
use Rattle.creation.proofs.Theorems.{Formed}
use Rattle.limit.specs.Limit.{is_limit, live_change, change_of}
use Rattle.limit.proofs.Rules.{change_none}
use Rattle.limit.proofs.Taking.{limit_kept}
use Rattle.judge.specs.Judge.{Call, amount_for, judged, region_after}
use Rattle.judge.proofs.Theorems.{a_refusal_leaves_the_region, writes}
use Rattle.bursar.specs.Run.{Fund, sol, tokens}
use Rattle.bursar.specs.Limits.{speaks_of, how_many, fixed_amounts, Terms, terms_of, terms_in}
use Rattle.bursar.proofs.OneCall.{Stands, Found, Pair, after_call, after_is_settled, counts-recurring, all_found, actions_are, actions_after}

-- ---- terms

-- an action of a type that counts nothing is not written
not_written : (call : Call) (a : Action) → is_recurring a.kind ≡ false → is_limit a.kind ≡ false → writes call a ≡ Nothing
unfolding writes change_of
not_written call a r l = go (ltb 0 (amount_for call a) && not (expired a.expires call.slot))
  where
    go : (b : Bool) → cond b (live_change call.slot (amount_for call a) a) Nothing ≡ Nothing
    go true = change_none call.slot (amount_for call a) a (amounts_of a) refl r l
    go false = refl

module _ (call : Call) (a : Action) (facts : Found call a) where
  amounts_fixed : fixed_amounts (after_call call a) ≡ fixed_amounts a
  unfolding fixed_amounts
  amounts_fixed =
      ap (λ (k : ℕ). cond (is_recurring k) (limit (amounts_of (after_call call a)) ∷ window (amounts_of (after_call call a)) ∷ []) (cond (is_limit k) [] (amounts_of (after_call call a)))) (changed_kind (writes call a) a)
      ∙ go (is_recurring a.kind) (is_limit a.kind) refl refl
    where
      go : (r l : Bool) → is_recurring a.kind ≡ r → is_limit a.kind ≡ l
          → cond r (limit (amounts_of (after_call call a)) ∷ window (amounts_of (after_call call a)) ∷ []) (cond l [] (amounts_of (after_call call a)))
          ≡ cond r (limit (amounts_of a) ∷ window (amounts_of a) ∷ []) (cond l [] (amounts_of a))
      go true l e f =
          ap₂ (λ (x y : ℕ). x ∷ y ∷ [])
          (ap (λ (b : Action). limit (amounts_of b)) (sym (after_is_settled call a)) ∙ limit_kept call.slot (record { act = a; amount = amount_for call a }) facts.regular (facts.kept (counts-recurring a.kind e)) e)
          (window_kept facts.regular e (writes call a))
      go false true e f = refl
      go false false e f =
          changed_amounts_lem (writes call a) a (mint_there facts.regular) ∙ ap (λ (x : Change). changed_amounts x (amounts_of a)) (not_written call a e f)

  terms_kept : terms_of (after_call call a) ≡ terms_of a
  unfolding terms_of
  terms_kept =
      ap₂ (λ (k x : ℕ). record { kind = k; expires = x; size = length (after_call call a).payload; mint = take (mint_length k) (after_call call a).payload; amounts = fixed_amounts (after_call call a) })
      (changed_kind (writes call a) a) (changed_expires (writes call a) a)
      ∙ ap₂ (λ (n : ℕ) (m : List ℕ). record { kind = a.kind; expires = a.expires; size = n; mint = m; amounts = fixed_amounts (after_call call a) })
      (changed-length (writes call a) a) (changed_mint (writes call a) a (mint_there facts.regular))
      ∙ ap (λ (f : List ℕ). record { kind = a.kind; expires = a.expires; size = length a.payload; mint = take (mint_length a.kind) a.payload; amounts = f }) amounts_fixed

each_terms_kept : (call : Call) (l : List Action) → Each (Found call) l → map terms_of (map (after_call call) l) ≡ map terms_of l
each_terms_kept call [] fs = refl
each_terms_kept call (a ∷ l) fs = ap₂ (λ (t : Terms) (ts : List Terms). t ∷ ts) (terms_kept call a fs.0) (each_terms_kept call l fs.1)

-- no call changes the terms of a region's actions, their order or their number
pub one_call_keeps_the_terms : (region : List ℕ) (call : Call) → Stands region → terms_in (region_after region call) ≡ terms_in region
one_call_keeps_the_terms region call st = go (accepts (judged region call)) refl
  where
    go : (b : Bool) → accepts (judged region call) ≡ b → terms_in (region_after region call) ≡ terms_in region
    go true h =
        ap (map terms_of) (actions_after region call st h) ∙ each_terms_kept call st.actions (all_found region call st h)
        ∙ sym (ap (map terms_of) (actions_are region call st))
    go false h = ap terms_in (a_refusal_leaves_the_region region call h)

-- ---- at most one

pub neither : (p q : Bool) → (p || q) ≡ false → (p ≡ false) × (q ≡ false)
neither false q e = (refl, e)
neither true q e = absurd (let n : ◌≡◌ {A = ℕ} 0 1 = cc in omega arith)

module _ {s t : ℕ} (pair : Pair s t) where
  -- as often as its type where it is SOL's
  often : (l : List Action) → how_many (speaks_of s t sol) l ≡ how_often s (kinds_of l)
  unfolding how_many speaks_of how_often
  often [] = refl
  often (a ∷ l) = ap (λ (n : ℕ). cond (eqb a.kind s) 1 0 + n) (often l)

  module _ (mint : List ℕ) where
    speaks_as_token : (a : Action) → speaks_of s t (tokens mint) a ≡ true → is_token a.kind ≡ true
    unfolding speaks_of
    speaks_as_token a is = ap is_token (eqb-true _ _ ((and-eq-true_iff (eqb a.kind t) (same_key (key_of a) mint)).0 is).0) ∙ pair.token

    -- none where no action has the type and the mint of one that speaks of it
    no_other : (a : Action) → speaks_of s t (tokens mint) a ≡ true → (l : List Action) → mint_again a l ≡ false → how_many (speaks_of s t (tokens mint)) l ≡ 0
    unfolding how_many speaks_of mint_again
    no_other a is [] e = refl
    no_other a is (b ∷ l) e =
        let (other, rest) = neither _ _ e in
        ap₂ (λ (x : Bool) (n : ℕ). cond x 1 0 + n) (not_it other) (no_other a is l rest)
      where
        kind_is : a.kind ≡ t
        kind_is = eqb-true _ _ ((and-eq-true_iff (eqb a.kind t) (same_key (key_of a) mint)).0 is).0

        key_is : key_of a ≡ mint
        key_is = same_key_eq _ _ ((and-eq-true_iff (eqb a.kind t) (same_key (key_of a) mint)).0 is).1

        not_it : (eqb b.kind a.kind && same_key (key_of b) (key_of a)) ≡ false → (eqb b.kind t && same_key (key_of b) mint) ≡ false
        not_it h = ap₂ (λ (k : ℕ) (m : List ℕ). eqb b.kind k && same_key (key_of b) m) (sym kind_is) (sym key_is) ∙ h

    at_most_one_mint : (l : List Action) → mint_repeats l ≡ false → how_many (speaks_of s t (tokens mint)) l ≤ 1
    unfolding how_many mint_repeats
    at_most_one_mint [] e = omega arith
    at_most_one_mint (a ∷ l) e =
        let (here, rest) = neither _ _ e in
        go here (at_most_one_mint l rest) (speaks_of s t (tokens mint) a) refl
      where
        go : (is_token a.kind && mint_again a l) ≡ false → how_many (speaks_of s t (tokens mint)) l ≤ 1
            → (b : Bool) → speaks_of s t (tokens mint) a ≡ b → cond b 1 0 + how_many (speaks_of s t (tokens mint)) l ≤ 1
        go here rest true is =
            let token : is_token a.kind ≡ true = speaks_as_token a is in
            let again : mint_again a l ≡ false = subst (λ (b : Bool). (b && mint_again a l) ≡ false) token here in
            let none_else = no_other a is l again in
            omega arith
        go here rest false is = omega arith

  -- at most one action of a region in form speaks of a fund
  pub at_most_one : (fund : Fund) (l : List Action) → Formed Windowed l → how_often s (kinds_of l) ≤ 1 → how_many (speaks_of s t fund) l ≤ 1
  at_most_one sol l form once = subst (λ (n : ℕ). n ≤ 1) (sym (often l)) once
  at_most_one (tokens mint) l form once = at_most_one_mint mint l form.one_of_each_token_type_for_a_mint
