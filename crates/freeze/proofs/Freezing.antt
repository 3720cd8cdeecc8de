-- Laws of the freeze, test by test and record by record.
-- Assumes nothing.
use mathlib.Core.Path.{◌≡◌, refl, ap}
use mathlib.Core.Bool.{Bool, true, false, cond, ◌&&◌, and-false}
use mathlib.Core.List.{List, [], ◌∷◌, map}
use mathlib.Core.Option.{some}
use Prim.Native.Nat.{ℕ}
use borrow.Author.Tests.{le-leb}
use lib.Dec.{leb}
use lib.ListN.{length}
use Rattle.std.specs.Prelude.{Option, None, Some}
use Rattle.std.specs.List.{find, list_all}
use Rattle.key.specs.Key.{same_key}
use Rattle.keys.specs.Views.{is_among}
use Rattle.account.specs.declared.RecordView.{RecordView}
use Rattle.account.specs.Record.{Record}
use Rattle.account.specs.Views.{record_at, records_in}
use Rattle.token.specs.Tokens.{token_account_length, is_token_account, is_counted, mint_of}
use Rattle.token.proofs.Theorems.{a_token_account_has_165_bytes}
use Rattle.freeze.specs.Freeze.{first_with_key, same_authorities, is_still, is_found_still, keeps_freeze, all_frozen}

-- ---- one account

module _ (p : List ℕ) (q : Record) where
  pub no_account_still : is_token_account q ≡ false → is_still p q ≡ false
  unfolding is_still
  no_account_still e = rw e

  pub account_still : is_token_account q ≡ true → is_still p q ≡ (leb token_account_length (length q.payload) && same_authorities p q.payload)
  unfolding is_still
  account_still e = rw (e, le-leb _ _ (a_token_account_has_165_bytes q e))

-- ---- the first record with a key

-- what was found among some views, if anything, is
abbrev pub still_of : List ℕ → List ℕ → Option RecordView → Bool
still_of p s None = false
still_of p s (Some v) = is_still p (record_at s v)

pub found_still : (p key s : List ℕ) (views : List RecordView)
    → is_found_still p (first_with_key key (records_in s views)) ≡ still_of p s (find (λ (v : RecordView). same_key (record_at s v).key key) views)
unfolding records_in first_with_key
found_still p key s [] = refl
found_still p key s (v ∷ vs) = go (same_key (record_at s v).key key) (found_still p key s vs)
  where
    go : (t : Bool) → is_found_still p (first_with_key key (map (record_at s) vs)) ≡ still_of p s (find (λ (w : RecordView). same_key (record_at s w).key key) vs)
        → is_found_still p (elim t [ true ↦ some (record_at s v) | false ↦ first_with_key key (map (record_at s) vs) ])
        ≡ still_of p s (cond t (Some v) (find (λ (w : RecordView). same_key (record_at s w).key key) vs))
    go true rest = refl
    go false rest = rest

-- ---- the freeze of one record

module _ (vault : List ℕ) (listed : List ℕ → Bool) (after : List Record) (r : Record) where
  pub not_listed_frozen : listed (mint_of r) ≡ false → keeps_freeze vault listed after r ≡ true
  unfolding keeps_freeze
  not_listed_frozen e = rw (e, and-false)

  pub not_counted_frozen : is_counted vault r ≡ false → keeps_freeze vault listed after r ≡ true
  unfolding keeps_freeze
  not_counted_frozen e = rw e

  module _ (c : is_counted vault r ≡ true) where
    pub listed_frozen : listed (mint_of r) ≡ true → keeps_freeze vault listed after r ≡ is_found_still r.payload (first_with_key r.key after)
    unfolding keeps_freeze
    listed_frozen e = rw (c, e)

-- ---- all records

pub all_kept : (vault : List ℕ) (listed : List ℕ → Bool) (after : List Record) (s : List ℕ) (views : List RecordView)
    → list_all (λ (v : RecordView). keeps_freeze vault listed after (record_at s v)) views ≡ all_frozen vault listed after (records_in s views)
unfolding all_frozen records_in
all_kept vault listed after s [] = refl
all_kept vault listed after s (v ∷ vs) = ap (λ (t : Bool). keeps_freeze vault listed after (record_at s v) && t) (all_kept vault listed after s vs)

-- the freeze asks only which mints are listed
pub frozen_alike : (vault : List ℕ) (f g : List ℕ → Bool) → ((m : List ℕ) → f m ≡ g m) → (after l : List Record) → all_frozen vault f after l ≡ all_frozen vault g after l
unfolding all_frozen keeps_freeze
frozen_alike vault f g alike after [] = refl
frozen_alike vault f g alike after (r ∷ l) = rw (alike (mint_of r), frozen_alike vault f g alike after l)

-- no mint is listed
pub frozen_none : (vault : List ℕ) (after l : List Record) → all_frozen vault (λ (m : List ℕ). is_among m []) after l ≡ true
unfolding all_frozen is_among
frozen_none vault after [] = refl
frozen_none vault after (r ∷ l) = rw (not_listed_frozen vault (λ (m : List ℕ). false) after r refl) (frozen_none vault after l)
