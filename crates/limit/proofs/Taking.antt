-- What an accepted call takes from one action: what is left goes down by the amount; a window goes on with the amount added to what is
-- spent, or begins anew at a later multiple of its length. One argument each for SOL and tokens.
-- Assumes nothing.
use mathlib.Core.Path.{◌≡◌, refl, sym, ap, subst, ◌∙◌}
use mathlib.Core.Bool.{Bool, true, false, ◌||◌}
use mathlib.Core.List.{List}
use Prim.Native.Nat.{ℕ, ◌+◌, ◌-◌, ◌*◌, ◌/◌, ◌^◌, ◌<◌, ◌≤◌}
use native.Mathlib.Nat.{mod-lt, div-add-mod'}
use native.Mathlib.Omega.{arith}
use borrow.Author.Tests.{ltb-true, ltb-false, eqb-true}
use lib.Dec.{eqb, ltb, lit≤}
use lib.ListN.{length}
use Rattle.number.specs.Number.{with_number_at, capped_sum, floored_difference, highest}
use Rattle.number.proofs.Laws.{read_back, read_before, read_below, length_with_number}
use Rattle.action.specs.Action.{expired}
use Rattle.action.specs.Fields.{is_recurring, amounts_of, remaining, limit, spent, window, last_reset}
use Rattle.action.proofs.Regular.{Regular, mint_there, amounts_there, amounts_are_bytes}
use Rattle.change.specs.declared.Change.{Change}
use Rattle.change.specs.declared.Change.TheVariants.{Nothing}
use Rattle.change.specs.Changed.{changed_amounts}
use Rattle.change.proofs.Changing.{changed_amounts_lem}
use Rattle.limit.specs.Limit.{Charge, window_over, base, above, breaks, spent_change, is_limit, live_change, change_of, settled}
use Rattle.limit.proofs.Rules.{above-recurring, above_other, change-recurring, change-limit, breaks-expired, breaks-above, unchanged_nothing, changed_live, spent_anew, spent_more}

-- a limit has no window
limit_not_recurring : (kind : ℕ) → is_limit kind ≡ true → is_recurring kind ≡ false
unfolding is_limit is_recurring
limit_not_recurring kind e = go (eqb kind 1) (eqb kind 4) refl refl e
  where
    go : (sol token : Bool) → eqb kind 1 ≡ sol → eqb kind 4 ≡ token → (sol || token) ≡ true → (eqb kind 2 || eqb kind 5) ≡ false
    go true token is other h = rw (eqb-true kind 1 is)
    go false true other is h = rw (eqb-true kind 4 is)
    go false false p q h = absurd (let n : ◌≡◌ {A = ℕ} 0 1 = cc in omega arith)

floored_at_most : (a b : ℕ) → floored_difference a b ≤ a
unfolding floored_difference
floored_at_most a b = omega arith

taken_back : (a b : ℕ) → b ≤ a → floored_difference a b + b ≡ a
unfolding floored_difference
taken_back a b h = omega arith

highest_fits : highest < 256 ^ 8
unfolding highest
highest_fits = omega arith

-- a capped sum below the cap is the sum
sum_below : (a b n : ℕ) → capped_sum a b ≤ n → n < highest → (a + b ≤ n) × (capped_sum a b ≡ a + b)
unfolding capped_sum
sum_below a b n h below = (omega arith, omega arith)

base_anew : (slot : ℕ) (amounts : List ℕ) → window_over slot amounts ≡ true → base slot amounts ≡ 0
unfolding base
base_anew slot amounts w = rw w

base_on : (slot : ℕ) (amounts : List ℕ) → window_over slot amounts ≡ false → base slot amounts ≡ spent amounts
unfolding base
base_on slot amounts w = rw w

-- where a window is over, the one that a slot lies in begins later
begins_later : (slot : ℕ) (amounts : List ℕ) → window_over slot amounts ≡ true → 0 < window amounts
    → (last_reset amounts < slot / window amounts * window amounts) × (slot / window amounts * window amounts ≤ slot)
unfolding window_over floored_difference
begins_later slot amounts w some =
    let past : window amounts < slot - last_reset amounts = ltb-true _ _ w in
    let whole = div-add-mod' slot (window amounts) in
    let rest = mod-lt slot some in
    (omega (arith, past, whole, rest), omega (arith, whole))

-- what an amount makes of a window: it goes on with more spent, or begins anew at a later multiple of its length
pub data Goes (amount : ℕ) (before after : List ℕ) : Type 0 where
  on : last_reset after ≡ last_reset before → spent after ≡ spent before + amount → Goes amount before after
  anew : last_reset before < last_reset after → (n : ℕ) → last_reset after ≡ n * window before → spent after ≡ amount → Goes amount before after

-- what a charge does that breaks no rule: nothing where it is 0, else what is written into a live action that allows it
data Does (slot : ℕ) (c : Charge) : Type 0 where
  nothing : c.amount ≡ 0 → change_of slot c ≡ Nothing → Does slot c
  something : change_of slot c ≡ live_change slot c.amount c.act → above slot c.amount c.act ≡ false → Does slot c

does : (slot : ℕ) (c : Charge) → breaks slot c.amount c.act ≡ false → Does slot c
does slot c kept = go (ltb 0 c.amount) refl
  where
    live : 0 < c.amount → (x : Bool) → expired c.act.expires slot ≡ x → Does slot c
    live some true e =
        absurd (let z : ◌≡◌ {A = Bool} true false = sym (breaks-expired slot c.amount c.act some e) ∙ kept in let n : ◌≡◌ {A = ℕ} 0 1 = cc in omega arith)
    live some false e = something (changed_live slot c some e) (sym (breaks-above slot c.amount c.act some e) ∙ kept)

    go : (t : Bool) → ltb 0 c.amount ≡ t → Does slot c
    go true e = live (ltb-true _ _ e) (expired c.act.expires slot) refl
    go false e = let none : c.amount ≤ 0 = ltb-false _ _ e in nothing (omega arith) (unchanged_nothing slot c none)

module _ (slot : ℕ) (c : Charge) (r : Regular c.act) (kept : breaks slot c.amount c.act ≡ false) where
  settled_amounts : {change : Change} → change_of slot c ≡ change → amounts_of (settled slot c) ≡ changed_amounts change (amounts_of c.act)
  unfolding settled
  settled_amounts e = changed_amounts_lem (change_of slot c) c.act (mint_there r) ∙ ap (λ (x : Change). changed_amounts x (amounts_of c.act)) e

  -- ---- a limit

  -- what is left and what was taken are what was left before
  pub left_and_taken : is_limit c.act.kind ≡ true → remaining (amounts_of (settled slot c)) + c.amount ≡ remaining (amounts_of c.act)
  left_and_taken is = go (does slot c kept)
    where
      other : is_recurring c.act.kind ≡ false
      other = limit_not_recurring c.act.kind is

      room : 8 ≤ length (amounts_of c.act)
      room = rw other at (amounts_there r)

      go : Does slot c → remaining (amounts_of (settled slot c)) + c.amount ≡ remaining (amounts_of c.act)
      go (nothing none e) = let same = ap remaining (settled_amounts e) in omega arith
      go (something e allowed) =
          let left = remaining (amounts_of c.act) in
          let enough : c.amount ≤ left = ltb-false _ _ (sym (above_other slot c.amount c.act (amounts_of c.act) refl other) ∙ allowed) in
          let wrote = settled_amounts (e ∙ change-limit slot c.amount c.act (amounts_of c.act) refl other is) in
          let small : floored_difference left c.amount < 256 ^ 8 =
          omega (arith, floored_at_most left c.amount, read_below 8 (amounts_of c.act) 0 (amounts_are_bytes r)) in
          let read : remaining (amounts_of (settled slot c)) ≡ floored_difference left c.amount =
          ap remaining wrote ∙ read_back 8 (amounts_of c.act) 0 (floored_difference left c.amount) room small in
          ap (λ (n : ℕ). n + c.amount) read ∙ taken_back left c.amount enough

  -- ---- a window

  module _ (is : is_recurring c.act.kind ≡ true) where
    window_room : 32 ≤ length (amounts_of c.act)
    window_room = rw is at (amounts_there r)

    -- what is read of amounts that a window's change wrote
    module _ (x y : ℕ) where
      wrote_spent : List ℕ
      wrote_spent = with_number_at 8 (amounts_of c.act) 8 x

      same_length : length wrote_spent ≡ length (amounts_of c.act)
      unfolding wrote_spent
      same_length = length_with_number 8 (amounts_of c.act) 8 x

      limit-read : limit (with_number_at 8 wrote_spent 24 y) ≡ limit (amounts_of c.act)
      unfolding wrote_spent
      limit-read =
          read_before 8 wrote_spent 24 y 0 (lit≤ tt) (rw same_length window_room)
          ∙ read_before 8 (amounts_of c.act) 8 x 0 (lit≤ tt) (omega (arith, window_room))

      spent-read : x < 256 ^ 8 → spent (with_number_at 8 wrote_spent 24 y) ≡ x
      unfolding wrote_spent
      spent-read small =
          read_before 8 wrote_spent 24 y 8 (lit≤ tt) (rw same_length window_room)
          ∙ read_back 8 (amounts_of c.act) 8 x (omega (arith, window_room)) small

      reset-read : y < 256 ^ 8 → last_reset (with_number_at 8 wrote_spent 24 y) ≡ y
      reset-read small = read_back 8 wrote_spent 24 y (rw same_length window_room) small

    -- no accepted call writes a window's limit
    pub limit_kept : limit (amounts_of (settled slot c)) ≡ limit (amounts_of c.act)
    unfolding wrote_spent
    limit_kept = go (does slot c kept)
      where
        wrote : (over : Bool) → window_over slot (amounts_of c.act) ≡ over → change_of slot c ≡ spent_change slot c.amount (amounts_of c.act)
            → limit (amounts_of (settled slot c)) ≡ limit (amounts_of c.act)
        wrote true w e = ap limit (settled_amounts (e ∙ spent_anew slot c.amount (amounts_of c.act) w)) ∙ limit-read _ _
        wrote false w e = ap limit (settled_amounts (e ∙ spent_more slot c.amount (amounts_of c.act) w)) ∙ limit-read _ _

        go : Does slot c → limit (amounts_of (settled slot c)) ≡ limit (amounts_of c.act)
        go (nothing none e) = ap limit (settled_amounts e)
        go (something e allowed) =
            wrote (window_over slot (amounts_of c.act)) refl (e ∙ change-recurring slot c.amount c.act (amounts_of c.act) refl is)

    -- below 2^64 - 1 a window never has more than its limit spent
    module _ (small : slot ≤ highest) (some : 0 < window (amounts_of c.act)) (below : limit (amounts_of c.act) < highest) where
      abbrev amounts : List ℕ
      amounts = amounts_of c.act

      abbrev Outcome : Type 0
      Outcome = Goes c.amount amounts (amounts_of (settled slot c)) × (spent amounts ≤ limit amounts → spent (amounts_of (settled slot c)) ≤ limit amounts)

      wrote : (over : Bool) → window_over slot amounts ≡ over → change_of slot c ≡ spent_change slot c.amount amounts
          → capped_sum (base slot amounts) c.amount ≤ limit amounts → Outcome
      unfolding wrote_spent
      wrote true w e allowed =
          let (later, not_after) = begins_later slot amounts w some in
          let (within, sum) = sum_below 0 c.amount (limit amounts) (subst (λ (n : ℕ). capped_sum n c.amount ≤ limit amounts) (base_anew slot amounts w) allowed) below in
          let is_now = settled_amounts (e ∙ spent_anew slot c.amount amounts w) in
          let fits = highest_fits in
          let reset : last_reset (amounts_of (settled slot c)) ≡ slot / window amounts * window amounts =
          ap last_reset is_now ∙ reset-read c.amount (slot / window amounts * window amounts) (omega arith) in
          let now : spent (amounts_of (settled slot c)) ≡ c.amount =
          ap spent is_now ∙ spent-read c.amount (slot / window amounts * window amounts) (omega arith) in
          (anew (omega (arith, later, reset)) (slot / window amounts) reset now, λ h. omega (arith, now, within))
      wrote false w e allowed =
          let (within, sum) = sum_below (spent amounts) c.amount (limit amounts) (subst (λ (n : ℕ). capped_sum n c.amount ≤ limit amounts) (base_on slot amounts w) allowed) below in
          let is_now = settled_amounts (e ∙ spent_more slot c.amount amounts w) in
          let fits = highest_fits in
          let reset : last_reset (amounts_of (settled slot c)) ≡ last_reset amounts =
          ap last_reset is_now ∙ reset-read (capped_sum (spent amounts) c.amount) (last_reset amounts) (read_below 8 amounts 24 (amounts_are_bytes r)) in
          let now : spent (amounts_of (settled slot c)) ≡ spent amounts + c.amount =
          ap spent is_now ∙ spent-read (capped_sum (spent amounts) c.amount) (last_reset amounts) (omega arith) ∙ sum in
          (on reset now, λ h. omega (arith, now, within))

      pub window_goes : Outcome
      window_goes = go (does slot c kept)
        where
          go : Does slot c → Outcome
          go (nothing none e) =
              let reset = ap last_reset (settled_amounts e) in
              let now = ap spent (settled_amounts e) in
              (on reset (omega (arith, now, none)), λ h. omega (arith, now, h))
          go (something e allowed) =
              wrote (window_over slot amounts) refl (e ∙ change-recurring slot c.amount c.act amounts refl is)
              (ltb-false _ _ (sym (above-recurring slot c.amount c.act amounts refl is) ∙ allowed))
