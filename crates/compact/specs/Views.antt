-- Where the instructions of a list lie in their source: the values that the code answers with, each from what was decoded.
-- Assumes nothing.
use Rattle.std.specs.Prelude.{◌≡◌, ℕ, ◌+◌, ◌-◌, List, [], ◌∷◌, map, length}
use Rattle.std.specs.List.{AllZip}
use Rattle.std.proofs.Math.Option.{Option, none, some}
use Rattle.arrayvec.specs.ArrayVec.{ArrayVec}
use Rattle.answer.specs.declared.Refusal.TheVariants.{InvalidInstructionData}
use Rattle.answer.specs.Refusable.{Refusable, Ok, Err, change}
use Rattle.compact.specs.declared.Entry.{Entry}
use Rattle.compact.specs.declared.ParsedInstructions.{ParsedInstructions}
use Rattle.compact.specs.Compact.{Instruction, Read, encode_one, decode}
use Rattle.compact.specs.Entries.{entries_in}

-- the entry of an instruction whose encoding begins at a place
unfoldable pub entry_at : ℕ → Instruction → Entry
entry_at at i =
    record {
      program = i.program;
      accounts = record { start = at + 2; len = length i.accounts };
      payload = record { start = at + 2 + length i.accounts + 2; len = length i.payload };
    }

-- the entries of some instructions whose encodings follow one another from a place
unfoldable pub entries_from : ℕ → List Instruction → List Entry
entries_from at [] = []
entries_from at (i ∷ is) = entry_at at i ∷ entries_from (at + length (encode_one i)) is

-- a list of some entries
abbrev pub entries_of : List Entry → ArrayVec Entry
entries_of es = record { items = es }

-- the refusal of reading: no list, nothing consumed
unfoldable pub reading_refused : Refusable ParsedInstructions
reading_refused = Err InvalidInstructionData

-- reading: the entries of the list at the front, which begins after the count, and the bytes consumed
unfoldable pub reading : List ℕ → Refusable ParsedInstructions
reading bytes =
    elim (decode bytes) [
      | none ↦ reading_refused
      | some d ↦ Ok (record { entries = entries_of (entries_from 1 d.value); consumed = length bytes - length d.rest })
    ]

-- what a judged call needs of a reading: the program index of each entry
unfoldable pub parsed_programs : Refusable ParsedInstructions → Refusable (ArrayVec ℕ)
parsed_programs reading = change (λ (p : ParsedInstructions). record { items = map (λ (e : Entry). e.program) (entries_in p.entries) }) reading

-- the code's answer to reading one instruction at a place: its entry and the place after it
unfoldable pub head_of : ℕ → Option (Read Instruction) → Refusable (Entry × ℕ)
head_of at none = Err InvalidInstructionData
head_of at (some d) = Ok (entry_at at d.value, at + length (encode_one d.value))

-- what the code's reader answers to a reading: what is kept of each entry, and the bytes consumed, or the refusal
abbrev pub Kept : {T : Type 0} → (Entry → T → Type 0) → Refusable ParsedInstructions → Refusable (ArrayVec T × ℕ) → Type 0
Kept keeps reading (Ok l) = (p : ParsedInstructions) × (reading ≡ Ok p) × AllZip keeps (entries_in p.entries) l.0.items × (l.1 ≡ p.consumed)
Kept keeps reading (Err r) = reading ≡ Err r
