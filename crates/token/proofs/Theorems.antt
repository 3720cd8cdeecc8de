-- What is promised of token accounts, each as one sentence.
-- Assumes nothing.
use mathlib.Core.Path.{◌≡◌, sym, ◌∙◌}
use mathlib.Core.Bool.{true, ◌&&◌, ◌||◌, and-true, or-true, and-eq-true_iff}
use mathlib.Core.List.{List}
use mathlib.Core.Logic.{⊎_elim}
use Prim.Native.Nat.{ℕ, ◌<◌, ◌≤◌}
use native.Mathlib.Omega.{arith}
use borrow.Author.Tests.{le-leb, eqb-true}
use lib.Dec.{leb}
use lib.ListN.{length, get_or}
use Rattle.key.specs.Key.{same_key}
use Rattle.account.specs.Record.{Record}
use Rattle.token.specs.Tokens.{spl_token, token2022, token_account_length, account_type, multisig_length, is_token_account, is_counted}
use Rattle.token.proofs.Counting.{spl_account}
use Rattle.token.proofs.Ways.{ways_under_2022, account_ways}

-- a token account has at least 165 bytes of data
pub a_token_account_has_165_bytes : (r : Record) → is_token_account r ≡ true → token_account_length ≤ length r.payload
a_token_account_has_165_bytes r e =
    ⊎_elim (λ of-spl. omega arith)
    (λ of-2022. ⊎_elim (λ same. omega arith) (λ more. let long : 165 < length r.payload = more.0 in omega arith) (ways_under_2022 r.payload of-2022.1))
    (account_ways r e)

-- and so has a counted record
pub a_counted_record_has_165_bytes : (vault : List ℕ) (r : Record) → is_counted vault r ≡ true → token_account_length ≤ length r.payload
unfolding is_counted
a_counted_record_has_165_bytes vault r e = a_token_account_has_165_bytes r ((and-eq-true_iff (is_token_account r) _).0 e).0

module _ (r : Record) (is_account_lem : is_token_account r ≡ true) where
  -- under SPL Token it has no other length
  pub an_account_of_spl_token_has_exactly_165_bytes : same_key r.owner spl_token ≡ true → length r.payload ≡ token_account_length
  an_account_of_spl_token_has_exactly_165_bytes e = eqb-true _ 165 (sym (spl_account r e) ∙ is_account_lem)

  -- a longer one is of Token-2022, says that it is an account, and is not as long as a multisignature record
  pub a_longer_account_is_of_token_2022_and_says_so : token_account_length < length r.payload
      → (same_key r.owner token2022 ≡ true) × ((get_or r.payload token_account_length 0 ≡ account_type) × (length r.payload ≡ multisig_length → ⊥))
  a_longer_account_is_of_token_2022_and_says_so long =
      ⊎_elim (λ of-spl. absurd (omega arith))
      (λ of-2022. (of-2022.0, ⊎_elim (λ same. absurd (omega arith)) (λ more. more.1) (ways_under_2022 r.payload of-2022.1)))
      (account_ways r is_account_lem)

  -- and every token account is one by document 01: of either program, with 165 bytes or more
  pub a_token_account_is_one_by_document_01 : ((same_key r.owner spl_token || same_key r.owner token2022) && leb token_account_length (length r.payload)) ≡ true
  a_token_account_is_one_by_document_01 =
      rw (le-leb 165 (length r.payload) (a_token_account_has_165_bytes r is_account_lem), and-true)
      (⊎_elim (λ of-spl. rw of-spl.0) (λ of-2022. rw (of-2022.0, or-true)) (account_ways r is_account_lem))
