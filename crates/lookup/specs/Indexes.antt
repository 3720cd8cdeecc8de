-- Indexes into a table: resolving those of an instruction, and the key at one.
-- Assumes nothing.
use Rattle.std.specs.Prelude.{ℕ, Bool, true, not, ◌&&◌, List, [], ◌∷◌, map, ltb, length, get_or}
use Rattle.answer.specs.declared.Refusal.TheVariants.{InvalidInstructionData}
use Rattle.answer.specs.Numbers.{Answer, refuse_if}
use Rattle.answer.specs.Refusable.{Ok, Err}
use Rattle.compact.specs.declared.Entry.{Entry}
use Rattle.compact.specs.Entries.{within, range_bytes}
use Rattle.account.specs.Record.{Record}
use Rattle.table.specs.Table.{cut_table, records_of}

-- whether each of some indexes is below a count
unfoldable pub all_below : ℕ → List ℕ → Bool
all_below count [] = true
all_below count (i ∷ is) = ltb i count && all_below count is

-- whether an entry names what is there: both ranges within its source, its program index and all account indexes below a count
unfoldable pub resolvable : ℕ → List ℕ → Entry → Bool
resolvable count source e =
    within source e.accounts && within source e.payload && ltb e.program count && all_below count (range_bytes source e.accounts)

-- what resolving an entry of a source answers: a malformed table first, then an entry that names what is not there
unfoldable pub resolving : List ℕ → Entry → List ℕ → Answer
unfolding cut_table resolvable
resolving table e source =
    elim (cut_table table) [
      | Ok l ↦ refuse_if (not (resolvable (length l) source e)) InvalidInstructionData
      | Err r ↦ Err r
    ]

-- the key of the record at an index, nothing past the last
unfoldable pub key_among : List Record → ℕ → List ℕ
key_among l index = get_or (map (λ (r : Record). r.key) l) index []

-- the key at an index of a table, nothing for a bad index or table
unfoldable pub key_at : List ℕ → ℕ → List ℕ
unfolding cut_table key_among
key_at table index = key_among (records_of (cut_table table)) index
