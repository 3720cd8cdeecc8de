-- The laws of a list that is filled in place: which keys it takes, and what it is with one more.
-- Assumes nothing.
use Prim.Native.Nat.{ℕ, ◌+◌, ◌<◌, ◌≤◌}
use mathlib.Core.Path.{◌≡◌}
use mathlib.Core.Bool.{true, false, and-false}
use mathlib.Core.List.{List}
use borrow.Author.Tests.{eq-eqb, ne_eqb, lt-ltb, le-ltb}
use lib.ListN.{length, set}
use Rattle.key.specs.Views.{key_from}
use Rattle.key.proofs.Laws.{key_of_its_length}
use Rattle.keys.specs.Views.{is_among, keys_in, with_key}
use Rattle.keys.specs.declared.Keys.{Keys}

module _ (l : Keys) (key : List ℕ) where
  pub with_full : 16 ≤ l.count → with_key l key ≡ l
  unfolding with_key
  with_full h = rw (le-ltb _ _ h)

  pub with_no_key : (length key ≡ 32 → ⊥) → with_key l key ≡ l
  unfolding with_key
  with_no_key h = rw (ne_eqb _ _ h, and-false)

  pub with_repeat : is_among key (keys_in l) ≡ true → with_key l key ≡ l
  unfolding with_key
  with_repeat h = rw (h, and-false)

  pub with_new : l.count < 16 → length key ≡ 32 → is_among key (keys_in l) ≡ false
      → with_key l key ≡ record { list = set l.list l.count (key_from key); count = l.count + 1 }
  unfolding with_key
  with_new hc hk ha = rw (lt-ltb _ _ hc, eq-eqb _ _ hk, ha, key_of_its_length key hk)
