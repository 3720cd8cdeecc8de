-- The sentences over runs.
-- Assumes nothing.
use mathlib.Core.Path.{◌≡◌, refl, sym, ap, ap₂, subst, ◌∙◌}
use mathlib.Core.Bool.{Bool, true, false, not, cond, ◌&&◌, ◌||◌, and-true, and-eq-true_iff}
use mathlib.Core.List.{List, [], ◌∷◌}
use mathlib.Core.Option.{Option, none, some}
use Prim.Native.Nat.{ℕ, ◌+◌, ◌<◌, ◌≤◌}
use native.Mathlib.Omega.{arith}
use borrow.Author.Tests.{eqb-true, ne_eqb, ltb-false}
use lib.Dec.{eqb, ltb}
use Rattle.answer.specs.Numbers.{number_of, accepted, bad_region}
use Rattle.answer.specs.Refusable.{Ok}
use Rattle.answer.proofs.Laws.{accepts_by_number}
use Rattle.number.specs.Number.{highest}
use Rattle.action.specs.Action.{Action, sol_limit, token_limit, sol_recurring_limit, token_recurring_limit}
use Rattle.action.specs.Fields.{is_token, is_recurring, amounts_of, remaining, limit, spent, window, last_reset}
use Rattle.creation.specs.declared.Rule.TheVariants.{Fresh}
use Rattle.creation.specs.Creation.{keeps, how_often, sol_repeats, stored_actions}
use Rattle.creation.proofs.Theorems.{creation_accepted_is_stored, stored_is_formed}
use Rattle.limit.specs.Limit.{is_limit}
use Rattle.limit.proofs.Taking.{Goes, on, anew}
use Rattle.judge.specs.Judge.{Call, actions_of, judged, region_after}
use Rattle.judge.proofs.Theorems.{a_stored_region_is_not_refused_as_such}
use Rattle.bursar.specs.Run.{Created, Slotted, ours, after_run, numbers_of, Fund, taken_by, taken_where, taken}
use Rattle.bursar.specs.Limits.{region_actions, is_limit_of, is_recurring_of, first_that, amounts_in, limit_of, recurring_of, reset_at, taken_at, Moves, stays, later, how_many, terms_in}
use Rattle.bursar.proofs.Terms.{one_call_keeps_the_terms, neither, at_most_one}
use Rattle.bursar.proofs.OneCall.{Stands, still_stands, Pair, speaks_as, each_keeps, found, takes, limit_goes, recurring_goes}

pub created_stands : (region : List ℕ) → Created region → Stands region
created_stands region (bytes, accepted) =
    let (l, stored, fresh) = creation_accepted_is_stored region accepted in
    record { bytes = bytes; actions = l; stored = stored }

some_amounts : (o : Option Action) (amounts : List ℕ) → amounts_in o ≡ some amounts → (a : Action) × (o ≡ some a) × (amounts_of a ≡ amounts)
some_amounts none amounts e = absurd (let n : ◌≡◌ {A = ℕ} 0 1 = cc in omega arith)
some_amounts (some a) amounts e = (a, refl, (let same : amounts_of a ≡ amounts = cc in same))

-- ---- what is left

pub limits : Pair sol_limit token_limit
unfolding is_token
limits = record { not_token = refl; not_gross = refl; token = refl }

sol_is_limit : is_limit sol_limit ≡ true
unfolding is_limit
sol_is_limit = refl

token_is_limit : is_limit token_limit ≡ true
unfolding is_limit
token_is_limit = refl

left_through : (fund : Fund) (calls : List Call) (region : List ℕ) → Stands region → (a : Action) → first_that (is_limit_of fund) (region_actions region) ≡ some a
    → (b : Action) × (first_that (is_limit_of fund) (region_actions (after_run ours region calls)) ≡ some b)
    × (remaining (amounts_of b) + taken fund ours region calls ≡ remaining (amounts_of a))
unfolding after_run taken_where
left_through fund [] region st a is = (a, is, (let z : remaining (amounts_of a) + 0 ≡ remaining (amounts_of a) = omega arith in z))
left_through fund (call ∷ calls) region st a is =
    let (b, is_b, here) = limit_goes limits fund region call st a is sol_is_limit token_is_limit in
    let (c, is_c, rest) = left_through fund calls (region_after region call) (still_stands region call st) b is_b in
    let head : cond (eqb (number_of (judged region call)) accepted && true) (taken_by fund call) 0 ≡ takes fund region call =
    ap (λ (x : Bool). cond x (taken_by fund call) 0) (and-true _ ∙ accepts_by_number (judged region call)) in
    (c, is_c, ap (λ (n : ℕ). remaining (amounts_of c) + (n + taken fund ours (region_after region call) calls)) head ∙ (let z : remaining (amounts_of c) + (takes fund region call + taken fund ours (region_after region call) calls) ≡ remaining (amounts_of a) = omega (arith, here, rest) in z))

-- for the SolLimit, and for each mint's TokenLimit: what is left at the end and what accepted calls took are the opening amount
pub what_is_left_and_what_was_taken_are_the_opening : (region : List ℕ) (calls : List Call) (fund : Fund) (opening : List ℕ)
    → Created region → limit_of fund region ≡ some opening
    → (end : List ℕ) × (limit_of fund (after_run ours region calls) ≡ some end) × (remaining end + taken fund ours region calls ≡ remaining opening)
unfolding limit_of
what_is_left_and_what_was_taken_are_the_opening region calls fund opening created is =
    let (a, found, amounts) = some_amounts (first_that (is_limit_of fund) (region_actions region)) opening is in
    let (b, found-b, sum) = left_through fund calls region (created_stands region created) a found in
    (amounts_of b, ap amounts_in found-b, sum ∙ ap remaining amounts)

-- ---- windows

pub recurrings : Pair sol_recurring_limit token_recurring_limit
unfolding is_token
recurrings = record { not_token = refl; not_gross = refl; token = refl }

sol_recurs : is_recurring sol_recurring_limit ≡ true
unfolding is_recurring
sol_recurs = refl

token_recurs : is_recurring token_recurring_limit ≡ true
unfolding is_recurring
token_recurs = refl

-- what a call takes counts where it leaves the last reset at the slot
counted : (p q : Bool) (n : ℕ) → cond (p && q) n 0 ≡ cond q (cond p n 0) 0
counted true q n = refl
counted false true n = refl
counted false false n = refl

module _ (slot amount total most : ℕ) (before after : List ℕ) where
  abbrev Spent : List ℕ → ℕ
  Spent amounts = cond (eqb (last_reset amounts) slot) (spent amounts) 0

  abbrev Counts : ℕ
  Counts = cond (eqb (last_reset after) slot) amount 0

  not_later : slot < last_reset after → Counts ≡ 0
  not_later h = ap (λ (b : Bool). cond b amount 0) (ne_eqb (last_reset after) slot (λ e. omega arith))

  -- what is spent and what later calls add stays within the limit, and nothing more is added to a window that is past
  carried : Goes amount before after → spent before ≤ most → Spent after + total ≤ most → (slot < last_reset after → total ≡ 0)
      → (Spent before + (Counts + total) ≤ most) × (slot < last_reset before → Counts + total ≡ 0)
  carried (on reset sum) within here past = (go (eqb (last_reset after) slot) (eqb (last_reset before) slot) (ap (λ (n : ℕ). eqb n slot) reset) here, gone)
    where
      go : (b c : Bool) → b ≡ c → cond b (spent after) 0 + total ≤ most → cond c (spent before) 0 + (cond b amount 0 + total) ≤ most
      go true true e h = omega arith
      go false false e h = omega arith
      go true false e h = absurd (let n : ◌≡◌ {A = ℕ} 0 1 = cc in omega arith)
      go false true e h = absurd (let n : ◌≡◌ {A = ℕ} 0 1 = cc in omega arith)

      gone : slot < last_reset before → Counts + total ≡ 0
      gone h = let none_here = not_later (omega arith) in let none_later = past (omega arith) in omega arith
  carried (anew moved n multiple sum) within here past = (go (eqb (last_reset before) slot) refl, gone)
    where
      gone : slot < last_reset before → Counts + total ≡ 0
      gone h = let none_here = not_later (omega arith) in let none_later = past (omega arith) in omega arith

      go : (b : Bool) → eqb (last_reset before) slot ≡ b → cond b (spent before) 0 + (Counts + total) ≤ most
      go true e =
          let at : last_reset before ≡ slot = eqb-true _ _ e in
          let none_here = not_later (omega arith) in
          let none_later = past (omega arith) in
          omega arith
      go false e = subst (λ (x : ℕ). 0 + (x + total) ≤ most) (ap (λ (x : ℕ). cond (eqb (last_reset after) slot) x 0) sum) (omega arith)

module _ (fund : Fund) (slot : ℕ) where
  -- what a call adds to a slot's total, where the recurring limit is found after it
  added : (region : List ℕ) (call : Call) (b : Action) → first_that (is_recurring_of fund) (region_actions (region_after region call)) ≡ some b
      → cond (eqb (number_of (judged region call)) accepted && reset_at slot (recurring_of fund (region_after region call))) (taken_by fund call) 0
      ≡ cond (eqb (last_reset (amounts_of b)) slot) (takes fund region call) 0
  unfolding recurring_of
  added region call b is =
      counted (eqb (number_of (judged region call)) accepted) _ (taken_by fund call)
      ∙ ap (λ (t : Bool). cond (reset_at slot (recurring_of fund (region_after region call))) (cond t (taken_by fund call) 0) 0) (accepts_by_number (judged region call))
      ∙ ap (λ (o : Option Action). cond (reset_at slot (amounts_in o)) (takes fund region call) 0) is

  window_through : (calls : List Call) (region : List ℕ) → Stands region → Slotted calls → (a : Action)
      → first_that (is_recurring_of fund) (region_actions region) ≡ some a
      → limit (amounts_of a) < highest → spent (amounts_of a) ≤ limit (amounts_of a)
      → (cond (eqb (last_reset (amounts_of a)) slot) (spent (amounts_of a)) 0 + taken_at slot fund ours region calls ≤ limit (amounts_of a))
      × (slot < last_reset (amounts_of a) → taken_at slot fund ours region calls ≡ 0)
  unfolding taken_where
  window_through [] region st slots a is below within = (go (eqb (last_reset (amounts_of a)) slot), λ h. refl)
    where
      go : (b : Bool) → cond b (spent (amounts_of a)) 0 + 0 ≤ limit (amounts_of a)
      go true = omega arith
      go false = omega arith
  window_through (call ∷ calls) region st slots a is below within =
      let went = recurring_goes recurrings fund region call st a is sol_recurs token_recurs slots.0 below within in
      let b = went.after in
      let same = went.same_limit in
      let most = limit (amounts_of a) in
      let total = taken_at slot fund ours (region_after region call) calls in
      let (here, past) = window_through calls (region_after region call) (still_stands region call st) slots.1 b went.there (rw same below) (rw same went.within) in
      let one = carried slot (takes fund region call) total most (amounts_of a) (amounts_of b) went.goes within (subst (λ (n : ℕ). cond (eqb (last_reset (amounts_of b)) slot) (spent (amounts_of b)) 0 + total ≤ n) same here) past in
      subst (λ (n : ℕ). (cond (eqb (last_reset (amounts_of a)) slot) (spent (amounts_of a)) 0 + (n + total) ≤ most) × (slot < last_reset (amounts_of a) → n + total ≡ 0)) (sym (added region call b went.there)) one

-- a last reset that moves twice
moves_on : (w a b c : ℕ) → Moves w a b → Moves w b c → Moves w a c
moves_on w a b c (stays p) (stays q) = stays (q ∙ p)
moves_on w a b c (stays p) (later less n q) = later (omega arith) n q
moves_on w a b c (later less n p) (stays q) = later (omega arith) n (q ∙ p)
moves_on w a b c (later less n p) (later more m q) = later (omega arith) m q

moves_once : {amount : ℕ} (before after : List ℕ) → Goes amount before after → Moves (window before) (last_reset before) (last_reset after)
moves_once before after (on reset sum) = stays reset
moves_once before after (anew moved n multiple sum) = later moved n multiple

moves_through : (fund : Fund) (calls : List Call) (region : List ℕ) → Stands region → Slotted calls → (a : Action)
    → first_that (is_recurring_of fund) (region_actions region) ≡ some a
    → limit (amounts_of a) < highest → spent (amounts_of a) ≤ limit (amounts_of a)
    → (b : Action) × (first_that (is_recurring_of fund) (region_actions (after_run ours region calls)) ≡ some b)
    × Moves (window (amounts_of a)) (last_reset (amounts_of a)) (last_reset (amounts_of b))
unfolding after_run
moves_through fund [] region st slots a is below within = (a, is, stays refl)
moves_through fund (call ∷ calls) region st slots a is below within =
    let went = recurring_goes recurrings fund region call st a is sol_recurs token_recurs slots.0 below within in
    let b = went.after in
    let same = went.same_limit in
    let (c, is_c, rest) = moves_through fund calls (region_after region call) (still_stands region call st) slots.1 b went.there (rw same below) (rw same went.within) in
    (c, is_c, moves_on _ _ _ _ (moves_once (amounts_of a) (amounts_of b) went.goes) (subst (λ (w : ℕ). Moves w (last_reset (amounts_of b)) (last_reset (amounts_of c))) went.same_window rest))

-- ---- from creation on

fresh_spends_nothing : (a : Action) → is_recurring a.kind ≡ true → keeps Fresh a ≡ true → spent (amounts_of a) ≡ 0
unfolding keeps
fresh_spends_nothing a recurs kept =
    let all = subst (λ (b : Bool). (not b || eqb (spent (amounts_of a)) 0 && ltb 0 (window (amounts_of a)) && eqb (last_reset (amounts_of a)) 0) ≡ true) recurs kept in
    eqb-true _ _ ((and-eq-true_iff (eqb (spent (amounts_of a)) 0) _).0 ((and-eq-true_iff _ (eqb (last_reset (amounts_of a)) 0)).0 all).0).0

-- nothing is spent of a new recurring limit
nothing_spent : (region : List ℕ) (fund : Fund) (a : Action) → Created region → first_that (is_recurring_of fund) (region_actions region) ≡ some a
    → spent (amounts_of a) ≤ limit (amounts_of a)
nothing_spent region fund a (bytes, accepted) is =
    let (l, stored, fresh) = creation_accepted_is_stored region accepted in
    let was = ap (first_that (is_recurring_of fund)) (sym (ap actions_of stored)) ∙ is in
    let (kept, speaks) = found (is_recurring_of fund) (λ (b : Action). keeps Fresh b ≡ true) l a (each_keeps Fresh l fresh.ended) was in
    let recurs = speaks_as recurrings fund a (λ (k : ℕ). is_recurring k ≡ true) sol_recurs token_recurs speaks in
    let none_spent : spent (amounts_of a) ≡ 0 = fresh_spends_nothing a recurs kept in
    omega arith

module _ (region : List ℕ) (calls : List Call) (fund : Fund) (opening : List ℕ) (created : Created region) (slots : Slotted calls)
    (is : recurring_of fund region ≡ some opening) (below : limit opening < highest) where
  -- for each recurring limit below 2^64 - 1, SOL's or a mint's: accepted calls that leave the same last reset take at most the limit
  pub a_window_takes_at_most_its_limit : (slot : ℕ) → taken_at slot fund ours region calls ≤ limit opening
  unfolding recurring_of
  a_window_takes_at_most_its_limit slot =
      let (a, found-a, amounts) = some_amounts (first_that (is_recurring_of fund) (region_actions region)) opening is in
      let (all, past) = window_through fund slot calls region (created_stands region created) slots a found-a (rw amounts below) (nothing_spent region fund a created found-a) in
      let same : limit (amounts_of a) ≡ limit opening = ap limit amounts in
      omega (arith, all, same)

  -- and its last reset never falls: it stays, or moves to a later multiple of the window
  pub the_last_reset_never_falls : (end : List ℕ) × (recurring_of fund (after_run ours region calls) ≡ some end) × Moves (window opening) (last_reset opening) (last_reset end)
  unfolding recurring_of
  the_last_reset_never_falls =
      let (a, found-a, amounts) = some_amounts (first_that (is_recurring_of fund) (region_actions region)) opening is in
      let (b, found-b, moves) = moves_through fund calls region (created_stands region created) slots a found-a (rw amounts below) (nothing_spent region fund a created found-a) in
      (amounts_of b, ap amounts_in found-b, subst (λ (x : List ℕ). Moves (window x) (last_reset x) (last_reset (amounts_of b))) amounts moves)

-- ---- the identity of an action through a run

pub stands_through : (calls : List Call) (region : List ℕ) → Stands region → Stands (after_run ours region calls)
unfolding after_run
stands_through [] region st = st
stands_through (call ∷ calls) region st = stands_through calls (region_after region call) (still_stands region call st)

-- the stored form is kept by every run
pub a_run_keeps_the_stored_form : (region : List ℕ) (calls : List Call) → Created region → (l : List Action) × (stored_actions (after_run ours region calls) ≡ Ok l)
a_run_keeps_the_stored_form region calls created =
    let st = stands_through calls region (created_stands region created) in
    (st.actions, st.stored)

never_15 : (calls : List Call) (region : List ℕ) → Stands region → how_often bad_region (numbers_of ours region calls) ≡ 0
unfolding numbers_of how_often
never_15 [] region st = refl
never_15 (call ∷ calls) region st =
    let most : number_of (judged region call) ≤ 13 = a_stored_region_is_not_refused_as_such region call st.stored in
    ap₂ (λ (b : Bool) (n : ℕ). cond b 1 0 + n) (ne_eqb (number_of (judged region call)) 15 (λ e. omega arith)) (never_15 calls (region_after region call) (still_stands region call st))

-- so a run from creation on is never answered with 15
pub a_run_is_never_answered_with_15 : (region : List ℕ) (calls : List Call) → Created region → how_often bad_region (numbers_of ours region calls) ≡ 0
a_run_is_never_answered_with_15 region calls created = never_15 calls region (created_stands region created)

terms_through : (calls : List Call) (region : List ℕ) → Stands region → terms_in (after_run ours region calls) ≡ terms_in region
unfolding after_run
terms_through [] region st = refl
terms_through (call ∷ calls) region st = terms_through calls (region_after region call) (still_stands region call st) ∙ one_call_keeps_the_terms region call st

-- no run changes types, expiries, lengths, mints, limits of windows, windows, programs, the order or the number of actions
pub a_run_keeps_the_terms : (region : List ℕ) (calls : List Call) → Created region → terms_in (after_run ours region calls) ≡ terms_in region
a_run_keeps_the_terms region calls created = terms_through calls region (created_stands region created)

-- the SolLimit is one, and so is the TokenLimit of each mint; so are the recurring limits
pub a_fund_has_one_limit : (region : List ℕ) (calls : List Call) → Created region → (fund : Fund)
    → (how_many (is_limit_of fund) (region_actions (after_run ours region calls)) ≤ 1) × (how_many (is_recurring_of fund) (region_actions (after_run ours region calls)) ≤ 1)
unfolding sol_repeats
a_fund_has_one_limit region calls created fund =
    let st = stands_through calls region (created_stands region created) in
    let form = (stored_is_formed (after_run ours region calls) st.actions st.stored).1 in
    let (first_two, third) = neither _ _ form.one_of_each_sol_type in
    let (first, second) = neither _ _ first_two in
    let is : region_actions (after_run ours region calls) ≡ st.actions = ap actions_of st.stored in (
      subst (λ (l : List Action). how_many (is_limit_of fund) l ≤ 1) (sym is) (at_most_one limits fund st.actions form (ltb-false _ _ first)),
      subst (λ (l : List Action). how_many (is_recurring_of fund) l ≤ 1) (sym is) (at_most_one recurrings fund st.actions form (ltb-false _ _ second)),
    )
