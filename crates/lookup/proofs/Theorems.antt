-- What is promised of indexes into a table, each as one sentence.
-- Assumes nothing.
use mathlib.Core.Path.{◌≡◌, refl, ap}
use mathlib.Core.Bool.{Bool, true, false, not, ◌&&◌, and-eq-true_iff}
use mathlib.Core.List.{List, [], ◌∷◌}
use mathlib.Core.Logic.{◌↔◌}
use Prim.Native.Nat.{ℕ, zero, suc, ◌+◌, ◌<◌, ◌≤◌}
use native.Mathlib.Nat.{not-suc-le-zero, le_of_suc-le-suc}
use native.Mathlib.Omega.{arith}
use borrow.Author.Tests.{ltb-true, ltb-false}
use lib.Dec.{ltb}
use lib.ListN.{length, get_or}
use lib.Seq.{length-take-le}
use Rattle.answer.specs.declared.Refusal.TheVariants.{InvalidInstructionData}
use Rattle.answer.specs.Numbers.{Answer, number_of, refuse_if}
use Rattle.answer.specs.Refusable.{Refusable, Ok, Err}
use Rattle.number.specs.Number.{number}
use Rattle.part.proofs.Laws.{length_part_there}
use Rattle.compact.specs.declared.Entry.{Entry}
use Rattle.compact.specs.Entries.{within, range_bytes}
use Rattle.account.specs.Record.{Record}
use Rattle.table.specs.Table.{cut_records, cut_table, records_of}
use Rattle.table.proofs.Given.{none_given, one_given, table_given, table_refusal}
use Rattle.lookup.specs.Indexes.{all_below, resolvable, resolving, key_among, key_at}
use Rattle.lookup.proofs.Lookups.{key_past, within_ends}

-- ---- lookup

key_lengths : (n : ℕ) (s : List ℕ) (l : List Record) (i : ℕ) → cut_records n s ≡ Ok l → i < length l → length (key_among l i) ≡ 32
unfolding key_among
key_lengths zero s l i e h = let (_, none) = none_given s l e in absurd (not-suc-le-zero (rw none at h))
key_lengths (suc n) s l zero e h =
    let g = one_given n s l e in
    let inside = g.is_first.within in
    rw (g.all, g.is_first.key_is) (length-take-le 32 s (omega arith))
key_lengths (suc n) s l (suc i) e h =
    let g = one_given n s l e in
    rw g.all (key_lengths n g.one.rest g.others i g.rest_given (le_of_suc-le-suc (rw g.all at h)))

-- a lookup gives 32 bytes exactly where the table is sound and the index below its count
pub a_lookup_gives_32_bytes_exactly_below_the_count : (s : List ℕ) (i : ℕ) → (length (key_at s i) ≡ 32) ↔ (i < length (records_of (cut_table s)))
unfolding key_at
a_lookup_gives_32_bytes_exactly_below_the_count s i = (only (ltb i (length (records_of (cut_table s)))) refl, there (cut_table s) refl)
  where
    only : (t : Bool) → ltb i (length (records_of (cut_table s))) ≡ t → length (key_among (records_of (cut_table s)) i) ≡ 32 → i < length (records_of (cut_table s))
    only true e h = ltb-true _ _ e
    only false e h =
        let none : length (key_among (records_of (cut_table s)) i) ≡ 0 = ap (λ (k : List ℕ). length k) (key_past (records_of (cut_table s)) i (ltb-false _ _ e)) in
        absurd (omega arith)

    there : (x : Refusable (List Record)) → cut_table s ≡ x → i < length (records_of x) → length (key_among (records_of x) i) ≡ 32
    there (Ok l) e h = key_lengths (number _) _ l i (table_given s l e).records_given h
    there (Err r) e h = absurd (not-suc-le-zero h)

-- ---- resolving

below_each : (count : ℕ) (is : List ℕ) (i : ℕ) → all_below count is ≡ true → i < length is → get_or is i 0 < count
unfolding all_below
below_each count [] i e h = absurd (not-suc-le-zero h)
below_each count (a ∷ is) zero e h = ltb-true _ _ ((and-eq-true_iff (ltb a count) _).0 e).0
below_each count (a ∷ is) (suc i) e h = below_each count is i ((and-eq-true_iff (ltb a count) _).0 e).1 (le_of_suc-le-suc h)

resolved_entry : (s : List ℕ) (e : Entry) (source : List ℕ) → resolving s e source ≡ Ok tt
    → resolvable (length (records_of (cut_table s))) source e ≡ true
unfolding resolving
resolved_entry s e source h = go (cut_table s) refl (resolvable _ source e) refl h
  where
    go : (x : Refusable (List Record)) → cut_table s ≡ x → (t : Bool) → resolvable (length (records_of x)) source e ≡ t
        → ◌≡◌ {A = Answer} (elim x [ Ok l ↦ refuse_if (not (resolvable (length l) source e)) InvalidInstructionData | Err r ↦ Err r ]) (Ok tt)
        → resolvable (length (records_of x)) source e ≡ true
    go (Ok l) c true d h = d
    go (Ok l) c false d h = absurd (let z : ◌≡◌ {A = ℕ} 3 0 = ap number_of (rw d at h) in omega arith)
    go (Err r) c t d h = absurd (let z : ◌≡◌ {A = ℕ} 13 0 = ap number_of (rw (table_refusal s r c) at h) in omega arith)

-- what an entry that resolves names: parts of its source, and records that a lookup finds
pub record NamesWhatIsThere (s : List ℕ) (e : Entry) (source : List ℕ) : Type 0 where
  pub accounts : e.accounts.start + e.accounts.len ≤ length source
  pub payload : e.payload.start + e.payload.len ≤ length source
  pub program : length (key_at s e.program) ≡ 32
  pub indexes : (i : ℕ) → i < e.accounts.len → length (key_at s (get_or (range_bytes source e.accounts) i 0)) ≡ 32

pub an_entry_that_resolves_names_what_is_there : (s : List ℕ) (e : Entry) (source : List ℕ) → resolving s e source ≡ Ok tt
    → NamesWhatIsThere s e source
unfolding resolvable
an_entry_that_resolves_names_what_is_there s e source h =
    let count = length (records_of (cut_table s)) in
    let (three, below) = (and-eq-true_iff (within source e.accounts && within source e.payload && ltb e.program count) _).0 (resolved_entry s e source h) in
    let (two, program) = (and-eq-true_iff (within source e.accounts && within source e.payload) _).0 three in
    let (accounts, payload) = (and-eq-true_iff (within source e.accounts) _).0 two in
    let inside = within_ends source e.accounts accounts in
    let found : (i : ℕ) → i < count → length (key_at s i) ≡ 32 = λ i. (a_lookup_gives_32_bytes_exactly_below_the_count s i).1 in
    let long = length_part_there source e.accounts.start e.accounts.len inside in
    record {
      accounts = inside;
      payload = within_ends source e.payload payload;
      program = found e.program (ltb-true _ _ program);
      indexes = λ i h. found _ (below_each count _ i below (rw long h));
    }
