-- What one judged call does to the action that speaks of a fund. One argument serves SOL and tokens: it is about any pair of types.
-- Assumes nothing.
use mathlib.Core.Path.{◌≡◌, refl, sym, ap, ap₂, subst, ◌∙◌}
use mathlib.Core.Bool.{Bool, true, false, cond, ◌&&◌, ◌||◌, and-eq-true_iff}
use mathlib.Core.List.{List, [], ◌∷◌, map}
use mathlib.Core.Option.{Option, none, some}
use Prim.Native.Nat.{ℕ, ◌+◌, ◌<◌, ◌≤◌}
use native.Mathlib.Omega.{arith}
use borrow.Author.Tests.{eqb-true, ltb-true}
use lib.Dec.{eqb}
use lib.ListN.{length}
use Rattle.answer.specs.Each.{Each}
use Rattle.answer.specs.Numbers.{accepts}
use Rattle.answer.specs.Refusable.{Ok}
use Rattle.number.specs.Number.{Bytes, highest}
use Rattle.key.specs.Key.{same_key}
use Rattle.key.proofs.Laws.{same_key_eq}
use Rattle.action.specs.Action.{Action, sol_max_per_tx}
use Rattle.action.specs.Fields.{is_token, is_recurring, key_of, amounts_of, remaining, limit, spent, window}
use Rattle.action.proofs.Regular.{Regular, mint_there}
use Rattle.change.specs.declared.Change.{Change}
use Rattle.change.specs.Changed.{changed}
use Rattle.change.proofs.Changing.{changed_kind, changed_key, window_kept}
use Rattle.creation.specs.declared.Rule.{Rule}
use Rattle.creation.specs.declared.Rule.TheVariants.{Windowed}
use Rattle.creation.specs.Creation.{keeps, all_keep, stored_actions}
use Rattle.creation.proofs.Keeping.{window_kept as windowed_is}
use Rattle.creation.proofs.Theorems.{stored_is_formed, stored_is_regular}
use Rattle.limit.specs.Limit.{Charge, breaks, is_limit, settled}
use Rattle.limit.proofs.Taking.{Goes, on, left_and_taken, limit_kept, window_goes}
use Rattle.charge.proofs.Accepting.{counts, EachKept}
use Rattle.outflow.specs.Outflow.{decrease_of}
use Rattle.judge.specs.Judge.{Call, records_before, records_after, amount_for, charged, actions_of, judged, region_after}
use Rattle.judge.proofs.Theorems.{a_refusal_leaves_the_region, writes, an_accepted_call_keeps_the_stored_form, an_accepted_call_keeps_bytes, an_accepted_call_keeps_the_length, accepted_charges_keep_their_rules}
use Rattle.bursar.specs.Run.{Fund, sol, tokens, taken_by}
use Rattle.bursar.specs.Limits.{region_actions, speaks_of, first_that}

-- ---- a region that stands: bytes in stored form

pub record Stands (region : List ℕ) : Type 0 where
  pub bytes : Bytes region
  pub actions : List Action
  pub stored : stored_actions region ≡ Ok actions

-- each action after an accepted call
abbrev pub after_call : Call → Action → Action
after_call call a = changed (writes call a) a

module _ (region : List ℕ) (call : Call) (st : Stands region) where
  -- it stands after a call, whatever the call was answered with
  pub still_stands : Stands (region_after region call)
  still_stands = go (accepts (judged region call)) refl
    where
      go : (t : Bool) → accepts (judged region call) ≡ t → Stands (region_after region call)
      go true e = record {
        bytes = an_accepted_call_keeps_bytes call region st.stored e st.bytes;
        actions = map (after_call call) st.actions;
        stored = an_accepted_call_keeps_the_stored_form call region st.stored e st.bytes;
      }
      go false e = subst Stands (sym (a_refusal_leaves_the_region region call e)) st

  -- and is as long as it was
  pub as_long : length (region_after region call) ≡ length region
  as_long = go (accepts (judged region call)) refl
    where
      go : (t : Bool) → accepts (judged region call) ≡ t → length (region_after region call) ≡ length region
      go true e = an_accepted_call_keeps_the_length call region st.stored e st.bytes
      go false e = ap length (a_refusal_leaves_the_region region call e)

  pub actions_are : region_actions region ≡ st.actions
  actions_are = ap actions_of st.stored

  pub actions_after : accepts (judged region call) ≡ true → region_actions (region_after region call) ≡ map (after_call call) st.actions
  actions_after e = ap actions_of (an_accepted_call_keeps_the_stored_form call region st.stored e st.bytes)

-- ---- an action that was found

-- what is known of an action of a standing region, at an accepted call
pub record Found (call : Call) (a : Action) : Type 0 where
  pub regular : Regular a
  pub kept : counts a.kind ≡ true → breaks call.slot (amount_for call a) a ≡ false

each_found : (call : Call) (l : List Action) → Each Regular l → EachKept call.slot (charged call l) → Each (Found call) l
unfolding charged
each_found call [] rs ks = tt
each_found call (a ∷ l) rs ks = (record { regular = rs.0; kept = ks.0 }, each_found call l rs.1 ks.1)

pub each_keeps : (rule : Rule) (l : List Action) → all_keep rule l ≡ true → Each (λ (a : Action). keeps rule a ≡ true) l
unfolding all_keep
each_keeps rule [] e = tt
each_keeps rule (a ∷ l) e = let (here, after) = (and-eq-true_iff (keeps rule a) _).0 e in (here, each_keeps rule l after)

pub apart : {A : Type 0} {a : A} → ◌≡◌ {A = Option A} none (some a) → ⊥
apart e = let n : ◌≡◌ {A = ℕ} 0 1 = cc in omega arith

module _ (test : Action → Bool) where
  pub found_here : (a : Action) (l : List Action) → test a ≡ true → first_that test (a ∷ l) ≡ some a
  unfolding first_that
  found_here a l e = rw (e, first_that)

  pub found_later : (a : Action) (l : List Action) → test a ≡ false → first_that test (a ∷ l) ≡ first_that test l
  unfolding first_that
  found_later a l e = rw (e, first_that)

  pub none_found : first_that test [] ≡ none
  unfolding first_that
  none_found = refl

  -- what all actions are, the one found is
  pub found : (P : Action → Type 0) (l : List Action) (a : Action) → Each P l → first_that test l ≡ some a → P a × (test a ≡ true)
  found P [] a ps e = absurd (apart (sym none_found ∙ e))
  found P (b ∷ l) a ps e = go (λ h. found P l a ps.1 h) (test b) refl
    where
      go : (first_that test l ≡ some a → P a × (test a ≡ true)) → (t : Bool) → test b ≡ t → P a × (test a ≡ true)
      go rest true h =
          let same : b ≡ a = let is : some b ≡ some a = sym (found_here b l h) ∙ e in cc in
          subst (λ (x : Action). P x × (test x ≡ true)) same (ps.0, h)
      go rest false h = rest (sym (found_later b l h) ∙ e)

  -- where changes keep the test, the action found is the one found before, changed
  found_changed : (f : Action → Change) (l : List Action) (a : Action) → Each Regular l
      → ((b : Action) → Regular b → test (changed (f b) b) ≡ test b)
      → first_that test l ≡ some a → first_that test (map (λ (b : Action). changed (f b) b) l) ≡ some (changed (f a) a)
  found_changed f [] a rs same e = absurd (apart (sym none_found ∙ e))
  found_changed f (b ∷ l) a rs same e = go (λ h. found_changed f l a rs.1 same h) (test b) refl
    where
      go : (first_that test l ≡ some a → first_that test (map (λ (x : Action). changed (f x) x) l) ≡ some (changed (f a) a))
          → (t : Bool) → test b ≡ t → first_that test (changed (f b) b ∷ map (λ (x : Action). changed (f x) x) l) ≡ some (changed (f a) a)
      go rest true h =
          let here : b ≡ a = let is : some b ≡ some a = sym (found_here b l h) ∙ e in cc in
          found_here (changed (f b) b) _ (same b rs.0 ∙ h) ∙ ap (λ (x : Action). some (changed (f x) x)) here
      go rest false h = found_later (changed (f b) b) _ (same b rs.0 ∙ h) ∙ rest (sym (found_later b l h) ∙ e)

-- ---- the action that speaks of a fund, for any pair of types

-- a type of SOL that looks at the decrease in lamports, and one of tokens
pub record Pair (solType tokenType : ℕ) : Type 0 where
  pub not_token : is_token solType ≡ false
  pub not_gross : eqb solType sol_max_per_tx ≡ false
  pub token : is_token tokenType ≡ true

module _ {s t : ℕ} (pair : Pair s t) where
  -- changes keep what an action speaks of
  speaks_still : (fund : Fund) (change : Change) (a : Action) → Regular a → speaks_of s t fund (changed change a) ≡ speaks_of s t fund a
  unfolding speaks_of
  speaks_still sol change a r = ap (λ (k : ℕ). eqb k s) (changed_kind change a)
  speaks_still (tokens mint) change a r =
      ap (λ (k : ℕ). eqb k t && same_key (key_of (changed change a)) mint) (changed_kind change a) ∙ go (eqb a.kind t) refl
    where
      go : (b : Bool) → eqb a.kind t ≡ b → (b && same_key (key_of (changed change a)) mint) ≡ (b && same_key (key_of a) mint)
      go true e = ap (λ (k : List ℕ). same_key k mint) (changed_key change a (mint_there r) (ap is_token (eqb-true _ _ e) ∙ pair.token))
      go false e = refl

  -- the amount that its rule looks at is what the call takes from the fund
  amount_is_taken : (fund : Fund) (call : Call) (a : Action) → speaks_of s t fund a ≡ true → amount_for call a ≡ taken_by fund call
  unfolding speaks_of amount_for taken_by
  amount_is_taken sol call a e =
      let is : a.kind ≡ s = eqb-true _ _ e in
      rw (is, pair.not_token, pair.not_gross)
  amount_is_taken (tokens mint) call a e =
      let (kind, key) = (and-eq-true_iff (eqb a.kind t) _).0 e in
      let token : is_token a.kind ≡ true = ap is_token (eqb-true _ _ kind) ∙ pair.token in
      rw token
      (ap (decrease_of call.vault (records_before call) (records_after call)) (same_key_eq _ _ key))

  -- its type is one of the two
  pub speaks_as : (fund : Fund) (a : Action) (P : ℕ → Type 0) → P s → P t → speaks_of s t fund a ≡ true → P a.kind
  unfolding speaks_of
  speaks_as sol a P p q e = subst P (sym (eqb-true _ _ e)) p
  speaks_as (tokens mint) a P p q e = subst P (sym (eqb-true _ _ ((and-eq-true_iff (eqb a.kind t) _).0 e).0)) q

-- what is known of each action of a standing region, at an accepted call
pub all_found : (region : List ℕ) (call : Call) (st : Stands region) → accepts (judged region call) ≡ true → Each (Found call) st.actions
all_found region call st h =
    each_found call st.actions (stored_is_regular region st.actions st.bytes st.stored).0
    (accepted_charges_keep_their_rules call region st.stored h)

-- what a call takes from a fund, if it is accepted
abbrev pub takes : Fund → List ℕ → Call → ℕ
takes fund region call = cond (accepts (judged region call)) (taken_by fund call) 0

pub after_is_settled : (call : Call) (a : Action) → settled call.slot (record { act = a; amount = amount_for call a }) ≡ after_call call a
unfolding settled writes
after_is_settled call a = refl

pub counts-recurring : (kind : ℕ) → is_recurring kind ≡ true → counts kind ≡ true
counts-recurring kind e = go (is_limit kind)
  where
    go : (b : Bool) → (b || is_recurring kind) ≡ true
    go true = refl
    go false = e

-- ---- one call

module _ {s t : ℕ} (pair : Pair s t) (fund : Fund) (region : List ℕ) (call : Call) (st : Stands region) (a : Action)
    (is : first_that (speaks_of s t fund) (region_actions region) ≡ some a) where
  was : first_that (speaks_of s t fund) st.actions ≡ some a
  was = ap (first_that (speaks_of s t fund)) (sym (actions_are region call st)) ∙ is

  regulars : Each Regular st.actions
  regulars = (stored_is_regular region st.actions st.bytes st.stored).0

  windowed : keeps Windowed a ≡ true
  windowed =
      (found (speaks_of s t fund) (λ (b : Action). keeps Windowed b ≡ true) st.actions a
      (each_keeps Windowed st.actions (stored_is_formed region st.actions st.stored).1.ended) was).0

  module _ (h : accepts (judged region call) ≡ true) where
    known : Found call a × (speaks_of s t fund a ≡ true)
    known = found (speaks_of s t fund) (Found call) st.actions a (all_found region call st h) was

    is_after : first_that (speaks_of s t fund) (region_actions (region_after region call)) ≡ some (after_call call a)
    is_after =
        ap (first_that (speaks_of s t fund)) (actions_after region call st h)
        ∙ found_changed (speaks_of s t fund) (writes call) st.actions a regulars (λ b r. speaks_still pair fund (writes call b) b r) was

    taken_is : amount_for call a ≡ takes fund region call
    taken_is = amount_is_taken pair fund call a known.1 ∙ sym (ap (λ (b : Bool). cond b (taken_by fund call) 0) h)

  is_kept : accepts (judged region call) ≡ false → first_that (speaks_of s t fund) (region_actions (region_after region call)) ≡ some a
  is_kept h = ap (λ (r : List ℕ). first_that (speaks_of s t fund) (region_actions r)) (a_refusal_leaves_the_region region call h) ∙ is

  -- what is left goes down by what the call takes
  pub limit_goes : is_limit s ≡ true → is_limit t ≡ true
      → (b : Action) × (first_that (speaks_of s t fund) (region_actions (region_after region call)) ≡ some b)
      × (remaining (amounts_of b) + takes fund region call ≡ remaining (amounts_of a))
  limit_goes ls lt = go (accepts (judged region call)) refl
    where
      go : (x : Bool) → accepts (judged region call) ≡ x
          → (b : Action) × (first_that (speaks_of s t fund) (region_actions (region_after region call)) ≡ some b)
          × (remaining (amounts_of b) + takes fund region call ≡ remaining (amounts_of a))
      go true h =
          let (facts, speaks) = known h in
          let limited : is_limit a.kind ≡ true = speaks_as pair fund a (λ (k : ℕ). is_limit k ≡ true) ls lt speaks in
          let kept = facts.kept (rw limited) in
          let left = left_and_taken call.slot (record { act = a; amount = amount_for call a }) facts.regular kept limited in (
            after_call call a,
            is_after h,
            ap₂ (λ (b : Action) (n : ℕ). remaining (amounts_of b) + n) (sym (after_is_settled call a)) (sym (taken_is h)) ∙ left,
          )
      go false h = (a, is_kept h, ap (λ (b : Bool). remaining (amounts_of a) + cond b (taken_by fund call) 0) h ∙ (let z : remaining (amounts_of a) + 0 ≡ remaining (amounts_of a) = omega arith in z))

  -- what a call makes of a recurring limit
  pub record Went : Type 0 where
    pub after : Action
    pub there : first_that (speaks_of s t fund) (region_actions (region_after region call)) ≡ some after
    pub same_limit : limit (amounts_of after) ≡ limit (amounts_of a)
    pub same_window : window (amounts_of after) ≡ window (amounts_of a)
    pub goes : Goes (takes fund region call) (amounts_of a) (amounts_of after)
    pub within : spent (amounts_of after) ≤ limit (amounts_of a)

  -- the window goes on or begins anew, and never has more than the limit spent
  pub recurring_goes : is_recurring s ≡ true → is_recurring t ≡ true → call.slot ≤ highest → limit (amounts_of a) < highest
      → spent (amounts_of a) ≤ limit (amounts_of a) → Went
  recurring_goes rs rt small below in-limit = go (accepts (judged region call)) refl
    where
      go : (x : Bool) → accepts (judged region call) ≡ x → Went
      go true h =
          let (facts, speaks) = known h in
          let c : Charge = record { act = a; amount = amount_for call a } in
          let recurs : is_recurring a.kind ≡ true = speaks_as pair fund a (λ (k : ℕ). is_recurring k ≡ true) rs rt speaks in
          let kept = facts.kept (counts-recurring a.kind recurs) in
          let some_window : 0 < window (amounts_of a) = ltb-true _ _ (sym (windowed_is a (amounts_of a) refl recurs) ∙ windowed) in
          let (goes_on, within-limit) = window_goes call.slot c facts.regular kept recurs small some_window below in
          record {
            after = after_call call a;
            there = is_after h;
            same_limit = ap (λ (b : Action). limit (amounts_of b)) (sym (after_is_settled call a)) ∙ limit_kept call.slot c facts.regular kept recurs;
            same_window = window_kept facts.regular recurs (writes call a);
            goes =
                subst (λ (n : ℕ). Goes n (amounts_of a) (amounts_of (after_call call a))) (taken_is h)
                (subst (λ (b : Action). Goes (amount_for call a) (amounts_of a) (amounts_of b)) (after_is_settled call a) goes_on);
            within = subst (λ (b : Action). spent (amounts_of b) ≤ limit (amounts_of a)) (after_is_settled call a) (within-limit in-limit);
          }
      go false h = record {
        after = a;
        there = is_kept h;
        same_limit = refl;
        same_window = refl;
        goes =
            subst (λ (b : Bool). Goes (cond b (taken_by fund call) 0) (amounts_of a) (amounts_of a)) (sym h)
            (on refl (let z : spent (amounts_of a) ≡ spent (amounts_of a) + 0 = omega arith in z));
        within = in-limit;
      }
