-- Inputs of the replay: B1, a region that is refused with a call behind it, and a call whose parts are too long with one behind it.
-- Assumes nothing.
use Rattle.std.specs.Prelude.{ℕ, List, [], ◌∷◌, ◌++◌, length, take, replicate}
use Rattle.number.specs.Number.{bytes_of}
use Rattle.judge.specs.NamedValues.{left}

-- a call at slot 0 with a decrease in lamports, over tables of no records and without instructions
unfoldable pub spending_bytes : ℕ → List ℕ
spending_bytes decrease =
    bytes_of 8 0
    ++ (bytes_of 8 decrease
    ++ (bytes_of 8 0
    ++ (bytes_of 8 0
    ++ (bytes_of 4 2 ++ (bytes_of 4 2 ++ (bytes_of 4 1 ++ (replicate 32 0 ++ (0 ∷ 0 ∷ 0 ∷ 0 ∷ 0 ∷ []))))))))

-- a SolLimit of 100, and calls that take 40, 61 and 60
unfoldable pub b1_input : List ℕ
unfolding left spending_bytes
b1_input = bytes_of 2 (length (left 100)) ++ (left 100 ++ (spending_bytes 40 ++ (spending_bytes 61 ++ spending_bytes 60)))

-- A3's region, which creation refuses, and a call
unfoldable pub refused_input : List ℕ
unfolding left spending_bytes
refused_input = bytes_of 2 10 ++ (take 10 (left 100) ++ spending_bytes 40)

-- the empty region, a call whose instructions would be 60,001 bytes, and one that is sound
unfoldable pub long_input : List ℕ
unfolding spending_bytes
long_input = bytes_of 2 0 ++ (replicate 40 0 ++ (bytes_of 4 60001 ++ (replicate 32 0 ++ spending_bytes 40)))
