-- How the entries of a list come to lie in the sixteen places that hold them.
-- Assumes nothing.
use Prim.Native.Nat.{◌-◌, ◌≤◌}
use mathlib.Core.Path.{◌≡◌, refl}
use mathlib.Core.List.{List, ◌++◌}
use native.Mathlib.Omega.{arith}
use lib.ListN.{length, drop, replicate, length-append}
use lib.Seq.{take_at}
use Rattle.std.proofs.lemmas.List.{drop-replicate, length-replicate}
use Rattle.compact.specs.declared.Entry.{Entry}
use Rattle.compact.specs.Compact.{most_instructions}
use Rattle.compact.specs.Laid.{zero_entry, Laid}

-- an entry of zeros is that one
pub zeros_alone : (e : Entry) → (e.program ≡ 0) × (((e.accounts.start ≡ 0) × (e.accounts.len ≡ 0)) × ((e.payload.start ≡ 0) × (e.payload.len ≡ 0)))
    → e ≡ zero_entry
zeros_alone e h =
    λ i. record { program = h.0 i; accounts = record { start = h.1.0.0 i; len = h.1.0.1 i }; payload = record { start = h.1.1.0 i; len = h.1.1.1 i } }

-- some entries lie first where the places held none before
pub lies_first : (xs : List Entry) → length xs ≤ most_instructions
    → Laid (record { list = xs ++ drop (length xs) (replicate most_instructions zero_entry); count = length xs })
lies_first xs h =
    let rest : drop (length xs) (replicate most_instructions zero_entry) ≡ replicate (most_instructions - length xs) zero_entry = drop-replicate (length xs) most_instructions zero_entry in
    record {
      few = h;
      all = simp (length-append, rest, length-replicate) (omega (arith, h));
      zeros = rw (take_at xs (drop (length xs) (replicate most_instructions zero_entry)) (length xs) refl, rest) refl;
    }
