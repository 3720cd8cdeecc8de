-- Laws of token accounts, test by test as the code goes.
-- Assumes nothing.
use mathlib.Core.Path.{◌≡◌, refl}
use mathlib.Core.Bool.{Bool, true, false, and-true, and-false, or-false}
use mathlib.Core.List.{List}
use Prim.Native.Nat.{ℕ, ◌-◌, ◌<◌, ◌≤◌, min}
use native.Mathlib.Omega.{arith}
use borrow.Author.Tests.{lt-ltb, le-ltb, eq-eqb, ne_eqb}
use lib.Dec.{eqb}
use lib.ListN.{length, get_or, length-take, length-drop}
use Rattle.key.specs.Key.{same_key, same_bytes}
use Rattle.key.proofs.Laws.{left_no_key, same_key_eq}
use Rattle.account.specs.Record.{Record}
use Rattle.token.specs.Tokens.{spl_token, token2022, is_token2022_account, is_token_account, holder_of, is_counted}

-- ---- data under Token-2022

module _ (p : List ℕ) where
  pub at_most_165 : length p ≤ 165 → is_token2022_account p ≡ eqb (length p) 165
  at_most_165 h = rw (le-ltb 165 (length p) h) (or-false (eqb (length p) 165))

  module _ (long : 165 < length p) where
    not_165 : eqb (length p) 165 ≡ false
    not_165 = ne_eqb (length p) 165 (λ e. omega arith)

    pub of_355 : length p ≡ 355 → is_token2022_account p ≡ false
    of_355 e = rw (not_165, eq-eqb (length p) 355 e, and-false)

    pub longer : (length p ≡ 355 → ⊥) → is_token2022_account p ≡ eqb (get_or p 165 0) 2
    longer h = rw (not_165, lt-ltb 165 (length p) long, ne_eqb (length p) 355 h) (and-true _)

-- ---- records

spl_is_not_2022 : same_key spl_token token2022 ≡ false
unfolding same_key same_bytes
spl_is_not_2022 = refl

module _ (r : Record) where
  pub spl_account : same_key r.owner spl_token ≡ true → is_token_account r ≡ eqb (length r.payload) 165
  unfolding is_token_account
  spl_account e =
      let not_2022 : same_key r.owner token2022 ≡ false = rw (same_key_eq _ _ e) spl_is_not_2022 in
      rw (e, not_2022) (or-false (eqb (length r.payload) 165))

  module _ (not-spl : same_key r.owner spl_token ≡ false) where
    pub no_token_program : same_key r.owner token2022 ≡ false → is_token_account r ≡ false
    unfolding is_token_account
    no_token_program e = rw (not-spl, e)

    pub token_2022_account : same_key r.owner token2022 ≡ true → is_token_account r ≡ is_token2022_account r.payload
    unfolding is_token_account
    token_2022_account e = rw (not-spl, e)

  pub too_short : length r.payload < 165 → is_token_account r ≡ false
  unfolding is_token_account
  too_short short =
      rw (ne_eqb (length r.payload) 165 (λ e. omega arith), le-ltb 165 (length r.payload) (omega arith), and-false (same_key r.owner spl_token), and-false (same_key r.owner token2022))

  module _ (vault : List ℕ) where
    pub no_holder : length r.payload < 64 → same_key (holder_of r) vault ≡ false
    no_holder short =
        left_no_key _ vault
        (λ e. let size : min 32 (length r.payload - 32) ≡ 32 = simp (length-take, length-drop) at e in omega arith)

    pub no_account_not_counted : is_token_account r ≡ false → is_counted vault r ≡ false
    unfolding is_counted
    no_account_not_counted e = rw e

    -- what is counted, as it is asked
    pub account_counted : {h : Bool} → is_token_account r ≡ true → same_key (holder_of r) vault ≡ h → is_counted vault r ≡ h
    unfolding is_counted
    account_counted is_account_lem held = rw is_account_lem held
