-- Compact instructions: the format, encoded and decoded.
-- Assumes nothing.
use Rattle.std.specs.Prelude.{ℕ, zero, suc, ◌<◌, ◌≤◌, ◌≡◌, true, false, List, [], ◌∷◌, ◌++◌, leb, length, take, drop}
use Rattle.std.proofs.Math.Option.{Option, none, some}
use Rattle.answer.specs.Each.{Each}
use Rattle.number.specs.Number.{number, bytes_of, Bytes}

-- an instruction: the index of its program, those of its accounts, its data
pub record Instruction : Type 0 where
  pub program : ℕ
  pub accounts : List ℕ
  pub payload : List ℕ

-- the most instructions of a list
unfoldable pub most_instructions : ℕ
most_instructions = 16

-- the most accounts of an instruction
unfoldable pub most_accounts : ℕ
most_accounts = 255

-- the most bytes of an instruction's data
unfoldable pub most_payload : ℕ
most_payload = 65535

-- an instruction as bytes: program index (1), number of accounts (1), that many indexes, data length (2), data
unfoldable pub encode_one : Instruction → List ℕ
encode_one i = i.program ∷ length i.accounts ∷ i.accounts ++ bytes_of 2 (length i.payload) ++ i.payload

-- some instructions as bytes, one after the other
unfoldable pub encode_each : List Instruction → List ℕ
encode_each [] = []
encode_each (i ∷ is) = encode_one i ++ encode_each is

-- a list as bytes: count (1), then each instruction
unfoldable pub encode : List Instruction → List ℕ
encode is = length is ∷ encode_each is

-- an instruction of bytes that keeps the writer's limits
pub record WritableOne (i : Instruction) : Type 0 where
  pub program : i.program < 256
  pub indexes : Bytes i.accounts
  pub bytes : Bytes i.payload
  pub few : length i.accounts ≤ most_accounts
  pub short : length i.payload ≤ most_payload

-- a list of such instructions that keeps the limit of instructions
pub record Writable (is : List Instruction) : Type 0 where
  pub few : length is ≤ most_instructions
  pub each : Each WritableOne is

-- bytes that begin with the encoding of such a list
pub record BeginsWithAList (bytes : List ℕ) : Type 0 where
  pub is : List Instruction
  pub rest : List ℕ
  pub split : bytes ≡ encode is ++ rest
  pub writable : Writable is

-- what was read at the front of some bytes, and the bytes after it
pub record Read (A : Type 0) : Type 0 where
  pub value : A
  pub rest : List ℕ

-- one step of reading after another: a step that finds nothing ends it
infixl 20 ◌>>=◌
abbrev pub ◌>>=◌ : {A B : Type 0} → Option A → (A → Option B) → Option B
none >>= f = none
some a >>= f = f a

-- the first byte, or nothing where there is none
unfoldable pub byte : List ℕ → Option (Read ℕ)
byte [] = none
byte (b ∷ bytes) = some (record { value = b; rest = bytes })

-- the first `size` bytes, or nothing where they are not all there
unfoldable pub front : ℕ → List ℕ → Option (Read (List ℕ))
front size bytes = elim (leb size (length bytes)) [ true ↦ some (record { value = take size bytes; rest = drop size bytes }) | false ↦ none ]

-- the first instruction of some bytes, or nothing where any part of it is past the end
unfoldable pub decode_one : List ℕ → Option (Read Instruction)
decode_one bytes = do
  program ← byte bytes
  count ← byte program.rest
  accounts ← front count.value count.rest
  size ← front 2 accounts.rest
  payload ← front (number size.value) size.rest
  some (record { value = record { program = program.value; accounts = accounts.value; payload = payload.value }; rest = payload.rest })

-- so many instructions, one after the other
unfoldable pub decode_each : ℕ → List ℕ → Option (Read (List Instruction))
decode_each zero bytes = some (record { value = []; rest = bytes })
decode_each (suc count) bytes = do
  first ← decode_one bytes
  more ← decode_each count first.rest
  some (record { value = first.value ∷ more.value; rest = more.rest })

-- the list at the front of some bytes, or nothing where they are empty, the count is above the limit, or any part is past the end
unfoldable pub decode : List ℕ → Option (Read (List Instruction))
decode bytes = do
  count ← byte bytes
  elim (leb count.value most_instructions) [ true ↦ decode_each count.value count.rest | false ↦ none ]
