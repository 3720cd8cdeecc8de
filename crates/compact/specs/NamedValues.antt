-- The named values of compact instructions, C1 to C3.
-- Assumes nothing.
use Rattle.std.specs.Prelude.{ℕ, List, [], ◌∷◌}
use Rattle.answer.specs.NamedValue.{NamedValue}
use Rattle.answer.specs.Numbers.{accepted, invalid_instruction_data, refusal_number}
use Rattle.answer.specs.Refusable.{Refusable, Ok, Err}
use Rattle.compact.specs.declared.Entry.{Entry}
use Rattle.compact.specs.declared.ParsedInstructions.{ParsedInstructions}
use Rattle.compact.specs.Entries.{entries_in}
use Rattle.compact.specs.Views.{reading}

-- the numbers of some entries: program index, where the accounts start and how many, where the data starts and how long it is
unfoldable pub entry_numbers : List Entry → List ℕ
entry_numbers [] = []
entry_numbers (e ∷ es) = e.program ∷ e.accounts.start ∷ e.accounts.len ∷ e.payload.start ∷ e.payload.len ∷ entry_numbers es

-- the numbers of a reading: the answer, the bytes consumed, the numbers of the entries; on a refusal nothing is consumed
unfoldable pub reading_numbers : Refusable ParsedInstructions → List ℕ
reading_numbers (Ok p) = accepted ∷ p.consumed ∷ entry_numbers (entries_in p.entries)
reading_numbers (Err r) = refusal_number r ∷ 0 ∷ []

-- what reading gives
unfoldable pub read : List ℕ → List ℕ
read bytes = reading_numbers (reading bytes)

-- one instruction, and a byte that is not its own
abbrev pub c2 : List ℕ
c2 = 0x01 ∷ 0x02 ∷ 0x01 ∷ 0x05 ∷ 0x02 ∷ 0x00 ∷ 0xaa ∷ 0xbb ∷ 0xcc ∷ []

unfoldable pub named_values : List NamedValue
unfolding entry_numbers reading_numbers read
named_values =
    -- C1: no instruction consumes one byte
    record { gives = read (0x00 ∷ []); named = accepted ∷ 1 ∷ [] }
    -- C2: one instruction consumes 8 bytes of 9
    ∷ record { gives = read c2; named = accepted ∷ 8 ∷ 2 ∷ 3 ∷ 1 ∷ 6 ∷ 2 ∷ [] }
    -- C3: seventeen instructions are too many
    ∷ record { gives = read (0x11 ∷ []); named = invalid_instruction_data ∷ 0 ∷ [] }
    ∷ []
