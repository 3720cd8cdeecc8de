-- The laws of lists of keys: what a search in one finds, and one key more.
-- Assumes nothing.
use mathlib.Core.Path.{◌≡◌, refl, sym, ap, ◌∙◌}
use mathlib.Core.Bool.{Bool, true, false, not, cond, ◌&&◌, ◌||◌, or-false, or_assoc}
use mathlib.Core.List.{List, [], ◌∷◌, ◌++◌, map}
use Prim.Native.Nat.{ℕ, zero, suc, ◌+◌, ◌<◌, ◌≤◌}
use native.Mathlib.Numerals.{add-one}
use native.Mathlib.Omega.{arith}
use lib.Dec.{eqb, ltb}
use lib.ListN.{length, take, set, length-set, length-map}
use lib.Seq.{take-suc-set}
use Rattle.std.specs.List.{list_any, position, position_or_len}
use Rattle.std.proofs.lemmas.List.{take-map}
use Rattle.key.specs.declared.Key.{Key}
use Rattle.key.specs.Key.{same_key}
use Rattle.key.specs.Views.{key_from}
use Rattle.key.proofs.Laws.{same_key_eq, key_of_its_length}
use Rattle.keys.specs.declared.Keys.{Keys}
use Rattle.keys.specs.Views.{is_among, keys_in, with_key}
use Rattle.keys.proofs.Filling.{with_repeat, with_new}

-- ---- a search

pub counted_keys : (l : Keys) → map (λ (k : Key). k.bytes) (take l.count l.list) ≡ keys_in l
unfolding keys_in
counted_keys l = sym (take-map (λ (k : Key). k.bytes) l.count l.list)

any_among : (key : List ℕ) (ks : List Key) → list_any (λ (k : Key). same_key k.bytes key) ks ≡ is_among key (map (λ (k : Key). k.bytes) ks)
unfolding is_among
any_among key [] = refl
any_among key (k ∷ ks) = ap (λ (t : Bool). same_key k.bytes key || t) (any_among key ks)

pub any_held : (l : Keys) (key : List ℕ) → list_any (λ (k : Key). same_key k.bytes key) (take l.count l.list) ≡ is_among key (keys_in l)
any_held l key = any_among key (take l.count l.list) ∙ ap (is_among key) (counted_keys l)

place_among : (key : List ℕ) (ks : List Key) → position_or_len (λ (k : Key). same_key k.bytes key) ks ≡ position_or_len (λ (k : List ℕ). same_key k key) (map (λ (k : Key). k.bytes) ks)
place_among key [] = refl
place_among key (k ∷ ks) = ap (λ (n : ℕ). cond (not (same_key k.bytes key)) (1 + n) 0) (place_among key ks)

pub place_held : (l : Keys) (key : List ℕ) → position (λ (k : Key). same_key k.bytes key) (take l.count l.list) ≡ position (λ (k : List ℕ). same_key k key) (keys_in l)
place_held l key =
    rw (place_among key (take l.count l.list), ← (length-map (take l.count l.list) (λ (k : Key). k.bytes)), counted_keys l)

-- ---- one key more

among_append : (key : List ℕ) (ks : List (List ℕ)) (more : List ℕ) → is_among key (ks ++ (more ∷ [])) ≡ (is_among key ks || same_key more key)
unfolding is_among
among_append key [] more = or-false (same_key more key)
among_append key (k ∷ ks) more = rw (among_append key ks more) (sym (or_assoc (same_key k key) _ _))

-- some keys and one more, unless it is among them
unfoldable pub with_one : List (List ℕ) → List ℕ → List (List ℕ)
with_one ks key = cond (is_among key ks) ks (ks ++ (key ∷ []))

-- a key is among some and one more where it is among them or is that one
pub among_with_one : (key : List ℕ) (ks : List (List ℕ)) (more : List ℕ) → is_among key (with_one ks more) ≡ (is_among key ks || same_key more key)
unfolding with_one
among_with_one key ks more = go (is_among more ks) refl
  where
    there : is_among more ks ≡ true → (t : Bool) → same_key more key ≡ t → is_among key ks ≡ (is_among key ks || t)
    there e true s = rw (← (same_key_eq more key s), e)
    there e false s = sym (or-false (is_among key ks))

    go : (t : Bool) → is_among more ks ≡ t → is_among key (cond t ks (ks ++ (more ∷ []))) ≡ (is_among key ks || same_key more key)
    go true e = there e (same_key more key) refl
    go false e = among_append key ks more

map-set : (l : List Key) (i : ℕ) (k : Key) → map (λ (x : Key). x.bytes) (set l i k) ≡ set (map (λ (x : Key). x.bytes) l) i k.bytes
map-set [] i k = refl
map-set (x ∷ l) zero k = refl
map-set (x ∷ l) (suc i) k = ap (λ (r : List (List ℕ)). x.bytes ∷ r) (map-set l i k)

-- a list that has room holds what it held and the key
module _ (l : Keys) (key : List ℕ) (long : length l.list ≡ 16) (room : l.count < 16) (whole : length key ≡ 32) where
  held : keys_in (record { list = set l.list l.count (key_from key); count = l.count + 1 }) ≡ keys_in l ++ (key ∷ [])
  unfolding keys_in
  held =
      let all = map (λ (k : Key). k.bytes) l.list in
      let inside : l.count < length all = rw (length-map l.list (λ (k : Key). k.bytes)) (omega arith) in
      rw (key_of_its_length key whole, map-set l.list l.count (record { bytes = key }), add-one l.count) (take-suc-set all l.count key inside)

  pub with_key_in : keys_in (with_key l key) ≡ with_one (keys_in l) key
  unfolding with_one
  with_key_in = go (is_among key (keys_in l)) refl
    where
      go : (t : Bool) → is_among key (keys_in l) ≡ t → keys_in (with_key l key) ≡ cond t (keys_in l) (keys_in l ++ (key ∷ []))
      go true e = ap keys_in (with_repeat l key e)
      go false e = ap keys_in (with_new l key room whole e) ∙ held

-- a list keeps its sixteen places, and its count grows by one at the most
pub record Next (l m : Keys) : Type 0 where
  pub places : length m.list ≡ length l.list
  pub grows : m.count ≤ l.count + 1

pub with_key_next : (l : Keys) (key : List ℕ) → Next l (with_key l key)
unfolding with_key
with_key_next l key = go (ltb l.count 16 && eqb (length key) 32 && not (is_among key (keys_in l)))
  where
    go : (t : Bool) → Next l (cond t (record { list = set l.list l.count (record { bytes = key }); count = l.count + 1 }) l)
    go true = record { places = length-set l.list l.count _; grows = omega arith }
    go false = record { places = refl; grows = omega arith }
