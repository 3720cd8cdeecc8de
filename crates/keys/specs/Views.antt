-- The values that the code answers with: lists of at most 16 keys without repeats.
-- Assumes nothing.
use Rattle.std.specs.Prelude.{ℕ, ◌+◌, ◌-◌, Bool, false, not, cond, ◌&&◌, ◌||◌, List, [], ◌∷◌, ◌++◌, map, eqb, ltb, length, take, set, replicate}
use Rattle.key.specs.declared.Key.{Key}
use Rattle.key.specs.Key.{key_length, same_key}
use Rattle.key.specs.Views.{zero_key}
use Rattle.keys.specs.declared.Keys.{Keys}

-- the most keys of a list
abbrev pub most_keys : ℕ
most_keys = 16

-- whether a key is among some
unfoldable pub is_among : List ℕ → List (List ℕ) → Bool
is_among key [] = false
is_among key (k ∷ ks) = same_key k key || is_among key ks

-- the keys that a list holds
unfoldable pub keys_in : Keys → List (List ℕ)
keys_in l = take l.count (map (λ (k : Key). k.bytes) l.list)

-- the list that holds some keys, and zeros past the last
unfoldable pub keys_of : List (List ℕ) → Keys
keys_of ks = record { list = map (λ (k : List ℕ). record { bytes = k }) ks ++ replicate (most_keys - length ks) zero_key; count = length ks }

-- a list with one key more; the list itself where it is full, where the key is none, or where it is among its keys
unfoldable pub with_key : Keys → List ℕ → Keys
with_key l key =
    cond (ltb l.count most_keys && eqb (length key) key_length && not (is_among key (keys_in l)))
    (record { list = set l.list l.count (record { bytes = key }); count = l.count + 1 })
    l
