-- Actions as regions have them: a known type, data of its length, and amounts that are all there.
-- Assumes nothing.
use mathlib.Core.Path.{◌≡◌, refl}
use mathlib.Core.Bool.{cond}
use Prim.Native.Nat.{ℕ, ◌+◌, ◌^◌, ◌<◌, ◌≤◌}
use native.Mathlib.Omega.{arith}
use borrow.Author.Tests.{leb-true}
use lib.Dec.{leb}
use lib.ListN.{length, length-drop}
use Rattle.number.specs.Number.{Bytes}
use Rattle.number.proofs.Laws.{bytes_drop}
use Rattle.action.specs.Action.{Action, data_length}
use Rattle.action.specs.Fields.{is_token, is_recurring, mint_length, amounts_of}
use Rattle.action.proofs.Lengths.{listed_passes}

-- the least data of a type: a mint where it has one, then one number or the four of a window
abbrev pub least : ℕ → ℕ
least code = mint_length code + cond (is_recurring code) 32 8

-- a known code's data is no shorter than its least
least_listed : (code : ℕ) → 0 < data_length code → least code ≤ data_length code
unfolding is_token is_recurring
least_listed code some = leb-true _ _ (listed_passes (λ (c size : ℕ). leb (least c) size) refl code some)

-- an action as a region has it: a known type, an expiry that fits, the listed length, bytes
pub record Regular (a : Action) : Type 0 where
  pub known : 0 < data_length a.kind
  pub soon : a.expires < 256 ^ 8
  pub sized : length a.payload ≡ data_length a.kind
  pub bytes : Bytes a.payload

module _ {a : Action} (r : Regular a) where
  enough : least a.kind ≤ length a.payload
  enough = rw r.sized (least_listed a.kind r.known)

  pub mint_there : mint_length a.kind ≤ length a.payload
  mint_there = omega (arith, enough)

  pub amounts_there : cond (is_recurring a.kind) 32 8 ≤ length (amounts_of a)
  unfolding amounts_of
  amounts_there = rw (length-drop (mint_length a.kind) a.payload) (omega (arith, enough))

  pub amounts_are_bytes : Bytes (amounts_of a)
  unfolding amounts_of
  amounts_are_bytes = bytes_drop (mint_length a.kind) a.payload r.bytes
