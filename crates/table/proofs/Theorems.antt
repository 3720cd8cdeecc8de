-- What is promised of the account table, each as one sentence.
-- Assumes nothing.
use mathlib.Core.Path.{◌≡◌}
use mathlib.Core.List.{List}
use Prim.Native.Nat.{ℕ, ◌≤◌}
use lib.ListN.{length}
use Rattle.answer.specs.declared.Refusal.TheVariants.{BadTable}
use Rattle.answer.specs.declared.Refusal.{Refusal}
use Rattle.answer.specs.Refusable.{Ok, Err}
use Rattle.answer.specs.Each.{Each}
use Rattle.number.specs.Number.{Bytes}
use Rattle.account.specs.Record.{Record}
use Rattle.account.specs.Views.{records_in}
use Rattle.table.specs.Table.{Storable, cut_table, records_of, glue_table, most_records}
use Rattle.table.specs.Views.{places_of, items_of}
use Rattle.table.proofs.Given.{table_refusal}
use Rattle.table.proofs.Views.{records_of_places}
use Rattle.table.proofs.Gluing.{table_glued, table_bytes}

-- a malformed table is 13, whatever is wrong with it
pub every_refusal_of_a_table_is_13 : (s : List ℕ) (r : Refusal) → cut_table s ≡ Err r → r ≡ BadTable
every_refusal_of_a_table_is_13 s r e = table_refusal s r e

-- records that a table can hold, at most 64, are cut again from the bytes that they are glued to
pub cutting_what_was_glued_gives_the_records : (l : List Record) → length l ≤ most_records → Each Storable l → cut_table (glue_table l) ≡ Ok l
cutting_what_was_glued_gives_the_records l few sound = table_glued l few sound

-- a table's records are glued to its bytes
pub gluing_what_was_cut_gives_the_bytes : (s : List ℕ) (l : List Record) → Bytes s → cut_table s ≡ Ok l → glue_table l ≡ s
gluing_what_was_cut_gives_the_bytes s l bytes e = table_bytes s l bytes e

-- the places that cutting answers with name the records of the table, and none where it is malformed
pub views_name_the_records : (s : List ℕ) → records_in s (items_of (places_of (cut_table s))) ≡ records_of (cut_table s)
views_name_the_records s = records_of_places s
