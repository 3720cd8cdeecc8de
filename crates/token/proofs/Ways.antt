-- The ways in which a record is a token account.
-- Assumes nothing.
use mathlib.Core.Path.{◌≡◌, refl}
use mathlib.Core.Bool.{Bool, true, false, ◌&&◌, ◌||◌, and-eq-true_iff}
use mathlib.Core.List.{List}
use mathlib.Core.Logic.{◌⊎◌, inl, inr, ⊎_elim}
use Prim.Native.Nat.{ℕ, ◌<◌}
use borrow.Author.Tests.{ltb-true, eqb-true, eqb-false, not-true}
use lib.Dec.{eqb, ltb}
use lib.ListN.{length, get_or}
use Rattle.key.specs.Key.{same_key}
use Rattle.account.specs.Record.{Record}
use Rattle.token.specs.Tokens.{spl_token, token2022, is_token2022_account, is_token_account}

either : (t u : Bool) → (t || u) ≡ true → (t ≡ true) ⊎ (u ≡ true)
either true u e = inl refl
either false u e = inr e

module _ (p : List ℕ) where
  -- an account of 165 bytes, or a longer one
  pub ways_under_2022 : is_token2022_account p ≡ true → (length p ≡ 165) ⊎ ((165 < length p) × ((get_or p 165 0 ≡ 2) × (length p ≡ 355 → ⊥)))
  ways_under_2022 e =
      ⊎_elim (λ same. inl (eqb-true (length p) 165 same))
      (λ more.
      let (marked, no-multisig) = (and-eq-true_iff (ltb 165 (length p) && eqb (get_or p 165 0) 2) _).0 more in
      let (long, account) = (and-eq-true_iff (ltb 165 (length p)) _).0 marked in
      inr (ltb-true 165 _ long, (eqb-true _ 2 account, eqb-false _ 355 (not-true _ no-multisig))))
      (either (eqb (length p) 165) _ e)

module _ (r : Record) where
  -- an account of SPL Token, or of Token-2022
  pub account_ways : is_token_account r ≡ true
      → ((same_key r.owner spl_token ≡ true) × (length r.payload ≡ 165))
      ⊎ ((same_key r.owner token2022 ≡ true) × (is_token2022_account r.payload ≡ true))
  unfolding is_token_account
  account_ways e =
      ⊎_elim
      (λ under-spl. let (owned, same) = (and-eq-true_iff (same_key r.owner spl_token) _).0 under-spl in inl (owned, eqb-true _ 165 same))
      (λ under-2022. inr ((and-eq-true_iff (same_key r.owner token2022) _).0 under-2022))
      (either (same_key r.owner spl_token && eqb (length r.payload) 165) _ e)
