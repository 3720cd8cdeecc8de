-- Laws of the first refusal: a rule that holds is passed, one that is broken decides.
-- Assumes nothing.
use mathlib.Core.Path.{◌≡◌, refl, sym, ap, ◌∙◌}
use mathlib.Core.Bool.{Bool, true, false}
use mathlib.Core.List.{List, [], ◌∷◌, ◌++◌}
use Prim.Native.Nat.{ℕ, ◌<◌}
use native.Mathlib.Omega.{arith}
use borrow.Author.Tests.{ne_eqb}
use lib.Dec.{eqb}
use Rattle.answer.specs.declared.Refusal.{Refusal}
use Rattle.answer.specs.Each.{Each}
use Rattle.answer.specs.declared.Refusal.TheVariants.{ActionBufferInvalid, ActionWhitelistBlacklistConflict, InvalidInstructionData, ActionProgramNotWhitelisted, ActionProgramBlacklisted, ActionSolMaxPerTxExceeded, ActionSolLimitExceeded, ActionSolRecurringLimitExceeded, ActionTokenMaxPerTxExceeded, ActionTokenLimitExceeded, ActionTokenRecurringLimitExceeded, SessionTokenAuthorityChanged, BadTable, NoRoom, BadRegion, NotEncodable}
use Rattle.answer.specs.Numbers.{Answer, number_of, refusal_number, accepted, accepts, first_refusal, refuse_if}
use Rattle.answer.specs.Refusable.{Ok, Err}

pub first_passes : (a : Answer) (l : List Answer) → accepts a ≡ true → first_refusal (a ∷ l) ≡ first_refusal l
unfolding first_refusal
first_passes a l e = rw (e, first_refusal)

pub first_refuses : (a : Answer) (l : List Answer) → accepts a ≡ false → first_refusal (a ∷ l) ≡ a
unfolding first_refusal
first_refuses a l e = rw (e, first_refusal)

-- the same, of an answer that is known
pub first_ok : (a : Answer) (l : List Answer) {u : Unit {0}} → a ≡ Ok u → first_refusal (a ∷ l) ≡ first_refusal l
first_ok a l e = rw e (first_passes (Ok tt) l refl)

pub first_err : (a : Answer) (l : List Answer) {r : Refusal} → a ≡ Err r → first_refusal (a ∷ l) ≡ Err r
first_err a l {r = r} e = rw e (first_refuses (Err r) l refl)

pub rule_holds : (broken : Bool) (r : Refusal) (l : List Answer) → broken ≡ false → first_refusal (refuse_if broken r ∷ l) ≡ first_refusal l
rule_holds broken r l e = rw e (first_passes (Ok tt) l refl)

pub rule_broken : (broken : Bool) (r : Refusal) (l : List Answer) → broken ≡ true → first_refusal (refuse_if broken r ∷ l) ≡ Err r
rule_broken broken r l e = rw e (first_refuses (Err r) l refl)

pub no_rule : first_refusal [] ≡ Ok tt
unfolding first_refusal
no_rule = refl

pub accepted_is : (a : Answer) → accepts a ≡ true → a ≡ Ok tt
accepted_is (Ok tt) e = refl
accepted_is (Err r) e = absurd (let n : ◌≡◌ {A = ℕ} 0 1 = cc in omega arith)

pub only : (a : Answer) → first_refusal (a ∷ []) ≡ a
only a = go (accepts a) refl
  where
    go : (t : Bool) → accepts a ≡ t → first_refusal (a ∷ []) ≡ a
    go true e = first_passes a [] e ∙ no_rule ∙ sym (accepted_is a e)
    go false e = first_refuses a [] e

-- the first refusal of two lists
pub first-append : (xs ys : List Answer) → first_refusal (xs ++ ys) ≡ first_refusal (first_refusal xs ∷ first_refusal ys ∷ [])
first-append [] ys = sym (ap (λ (a : Answer). first_refusal (a ∷ first_refusal ys ∷ [])) no_rule ∙ first_passes (Ok tt) _ refl ∙ only (first_refusal ys))
first-append (a ∷ xs) ys = go (accepts a) refl (first-append xs ys)
  where
    go : (t : Bool) → accepts a ≡ t → first_refusal (xs ++ ys) ≡ first_refusal (first_refusal xs ∷ first_refusal ys ∷ [])
        → first_refusal ((a ∷ xs) ++ ys) ≡ first_refusal (first_refusal (a ∷ xs) ∷ first_refusal ys ∷ [])
    go true e more = first_passes a (xs ++ ys) e ∙ more ∙ ap (λ (b : Answer). first_refusal (b ∷ first_refusal ys ∷ [])) (sym (first_passes a xs e))
    go false e more = first_refuses a (xs ++ ys) e ∙ sym (ap (λ (b : Answer). first_refusal (b ∷ first_refusal ys ∷ [])) (first_refuses a xs e) ∙ first_refuses a _ e)

-- each of some answers accepts
abbrev pub EachAccepts : List Answer → Type 0
EachAccepts l = Each (λ (a : Answer). accepts a ≡ true) l

-- so it is where none is the first that refuses
pub each_accepts : (l : List Answer) → accepts (first_refusal l) ≡ true → EachAccepts l
each_accepts [] h = tt
each_accepts (a ∷ l) h = go (each_accepts l) (accepts a) refl
  where
    go : (accepts (first_refusal l) ≡ true → EachAccepts l) → (t : Bool) → accepts a ≡ t → (accepts a ≡ true) × EachAccepts l
    go rest true e = (e, rest (ap accepts (sym (first_passes a l e)) ∙ h))
    go rest false e =
        absurd (let z : ◌≡◌ {A = Bool} true false = sym h ∙ ap accepts (first_refuses a l e) ∙ e in let n : ◌≡◌ {A = ℕ} 0 1 = cc in omega arith)

-- a refusal's number is not that of acceptance
pub refusal_above : (r : Refusal) → 0 < refusal_number r
refusal_above ActionBufferInvalid = omega arith
refusal_above ActionWhitelistBlacklistConflict = omega arith
refusal_above InvalidInstructionData = omega arith
refusal_above ActionProgramNotWhitelisted = omega arith
refusal_above ActionProgramBlacklisted = omega arith
refusal_above ActionSolMaxPerTxExceeded = omega arith
refusal_above ActionSolLimitExceeded = omega arith
refusal_above ActionSolRecurringLimitExceeded = omega arith
refusal_above ActionTokenMaxPerTxExceeded = omega arith
refusal_above ActionTokenLimitExceeded = omega arith
refusal_above ActionTokenRecurringLimitExceeded = omega arith
refusal_above SessionTokenAuthorityChanged = omega arith
refusal_above BadTable = omega arith
refusal_above NoRoom = omega arith
refusal_above BadRegion = omega arith
refusal_above NotEncodable = omega arith

-- an answer accepts where its number is that of acceptance
pub accepts_by_number : (a : Answer) → eqb (number_of a) accepted ≡ accepts a
accepts_by_number (Ok u) = refl
accepts_by_number (Err r) = ne_eqb (refusal_number r) 0 (λ z. omega (arith, refusal_above r))
