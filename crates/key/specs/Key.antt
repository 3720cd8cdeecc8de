-- Keys of 32 bytes, compared.
-- Assumes nothing.
use Rattle.std.specs.Prelude.{ℕ, Bool, true, false, ◌&&◌, List, [], ◌∷◌, eqb, length}

-- the bytes of a key
abbrev pub key_length : ℕ
key_length = 32

-- whether two rows of bytes are the same
unfoldable pub same_bytes : List ℕ → List ℕ → Bool
same_bytes [] [] = true
same_bytes [] (y ∷ ys) = false
same_bytes (x ∷ xs) [] = false
same_bytes (x ∷ xs) (y ∷ ys) = eqb x y && same_bytes xs ys

-- whether both are keys and the same
unfoldable pub same_key : List ℕ → List ℕ → Bool
same_key a b = eqb (length a) key_length && eqb (length b) key_length && same_bytes a b
