-- Laws of indexes: the key at one, whether all are below a count, and what resolving answers.
-- Assumes nothing.
use mathlib.Core.Path.{◌≡◌, ap, ◌∙◌}
use mathlib.Core.Bool.{Bool, true, not}
use mathlib.Core.List.{List, [], ◌∷◌, map}
use Prim.Native.Nat.{ℕ, zero, suc, ◌+◌, ◌<◌, ◌≤◌}
use native.Mathlib.Omega.{arith}
use borrow.Author.Tests.{leb-true}
use lib.ListN.{length, get_or, drop, length-map, get_or-map, get_or-eq_default}
use lib.Seq.{drop-cons}
use Rattle.arrayvec.specs.ArrayVec.{ArrayVec}
use Rattle.answer.specs.declared.Refusal.{Refusal}
use Rattle.answer.specs.declared.Refusal.TheVariants.{InvalidInstructionData}
use Rattle.answer.specs.Numbers.{refuse_if}
use Rattle.answer.specs.Refusable.{Ok, Err}
use Rattle.compact.specs.declared.Range.{Range}
use Rattle.compact.specs.declared.Entry.{Entry}
use Rattle.compact.specs.Entries.{within}
use Rattle.account.specs.declared.RecordView.{RecordView}
use Rattle.account.specs.Record.{Record}
use Rattle.account.specs.Views.{record_at, records_in}
use Rattle.table.specs.Table.{cut_table}
use Rattle.table.specs.Views.{places_of}
use Rattle.table.proofs.Views.{table_malformed, table_sound}
use Rattle.lookup.specs.Indexes.{resolvable, resolving, key_among, key_at}

-- ---- the key at an index

pub key_past : (l : List Record) (i : ℕ) → length l ≤ i → key_among l i ≡ []
unfolding key_among
key_past l i h =
    let keys = map (λ (r : Record). r.key) l in
    let past : length keys ≤ i = simp length-map h in
    get_or-eq_default keys [] past

-- the key at an index of a row whose rest from there begins with a record
key_of_rest : (l : List Record) (i : ℕ) (r : Record) (rest : List Record) → drop i l ≡ r ∷ rest → key_among l i ≡ r.key
unfolding key_among
key_of_rest [] zero r rest e = absurd (let z : ◌≡◌ {A = ℕ} 0 1 = cc in omega arith)
key_of_rest [] (suc i) r rest e = absurd (let z : ◌≡◌ {A = ℕ} 0 1 = cc in omega arith)
key_of_rest (a ∷ l) zero r rest e = ap (λ (x : Record). x.key) (let same : a ≡ r = cc in same)
key_of_rest (a ∷ l) (suc i) r rest e = key_of_rest l i r rest e

pub key_there : (s : List ℕ) (views : List RecordView) (i : ℕ) (d : RecordView) → i < length views
    → key_among (records_in s views) i ≡ (record_at s (get_or views i d)).key
unfolding records_in
key_there s views i d h =
    let inside : i < length (map (record_at s) views) = simp length-map h in
    key_of_rest (map (record_at s) views) i (record_at s (get_or views i d)) (drop (suc i) (map (record_at s) views))
    (drop-cons (map (record_at s) views) i (record_at s d) inside ∙ rw (get_or-map (record_at s) views i d))

pub key_of_table : (s : List ℕ) (views : ArrayVec RecordView) (i : ℕ) → places_of (cut_table s) ≡ Ok views → key_among (records_in s views.items) i ≡ key_at s i
unfolding key_at
key_of_table s views i whole = rw (table_sound s views whole).0

pub key_of_none : (s : List ℕ) (i : ℕ) (r : Refusal) → places_of (cut_table s) ≡ Err r → key_at s i ≡ []
unfolding key_at
key_of_none s i r refused = rw (table_malformed s r refused) (key_past [] i (omega arith))

-- ---- resolving

pub within_ends : (source : List ℕ) (r : Range) → within source r ≡ true → r.start + r.len ≤ length source
unfolding within
within_ends source r h = leb-true _ _ h

module _ (s : List ℕ) (e : Entry) (source : List ℕ) where
  pub resolve_malformed : (r : Refusal) → places_of (cut_table s) ≡ Err r → resolving s e source ≡ Err r
  unfolding resolving
  resolve_malformed r h = rw (table_malformed s r h, resolving)

  -- past a sound table the test of the entry decides
  pub resolve_sound : (views : ArrayVec RecordView) → places_of (cut_table s) ≡ Ok views → (fits : Bool) → resolvable (length views.items) source e ≡ fits
      → resolving s e source ≡ refuse_if (not fits) InvalidInstructionData
  unfolding resolving
  resolve_sound views h fits decided =
      let (is-given, counted) = table_sound s views h in
      rw (is-given, resolving, counted, decided)
