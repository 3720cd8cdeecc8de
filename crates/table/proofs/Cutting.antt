-- Laws of cutting: when the first record is there, what the read at a place answers, and what the count asks.
-- Assumes nothing.
use mathlib.Core.Path.{◌≡◌, refl, sym, ◌∙◌, subst}
use mathlib.Core.Bool.{Bool, ◌&&◌, and-false, and-eq-true_iff}
use mathlib.Core.List.{List, [], ◌∷◌}
use Prim.Native.Nat.{ℕ, suc, ◌+◌, ◌<◌, ◌≤◌}
use native.Mathlib.Nat.{not-suc-le-zero}
use native.Mathlib.Omega.{arith}
use borrow.Author.Tests.{le-leb, lt-leb, leb-true}
use lib.Dec.{leb}
use lib.ListN.{length, take, drop, length-drop}
use lib.Seq.{drop-drop, length-take-le}
use Rattle.answer.specs.declared.Refusal.TheVariants.{BadTable}
use Rattle.answer.specs.declared.Refusal.{Refusal}
use Rattle.answer.specs.Refusable.{Refusable, Ok, Err, change}
use Rattle.answer.proofs.Refusing.{chosen_given, chosen_refused, given_not_refused}
use Rattle.number.specs.Number.{number, number_at}
use Rattle.number.proofs.Laws.{number_there}
use Rattle.account.specs.declared.RecordView.{RecordView}
use Rattle.account.specs.Record.{Record}
use Rattle.table.specs.Table.{FirstRecord, record_data_length, first_record, cut_records, cut_table}
use Rattle.table.specs.Views.{record_view_at, read_at}

-- whether the header and the data of the first record are all there
abbrev is_whole : List ℕ → Bool
is_whole s = leb 68 (length s) && leb (68 + record_data_length s) (length s)

-- what is then given
abbrev pub first_of : List ℕ → FirstRecord
first_of s = record {
  first = record { key = take 32 s; owner = take 32 (drop 32 s); payload = take (record_data_length s) (drop 68 s) };
  rest = drop (68 + record_data_length s) s;
}

pub first_given : (s : List ℕ) → 68 ≤ length s → 68 + record_data_length s ≤ length s → first_record s ≡ Ok (first_of s)
unfolding first_record
first_given s long there = rw (le-leb _ _ long, le-leb _ _ there)

first_short : (s : List ℕ) → length s < 68 → first_record s ≡ Err BadTable
unfolding first_record
first_short s short = rw (lt-leb _ _ short)

first_past : (s : List ℕ) → length s < 68 + record_data_length s → first_record s ≡ Err BadTable
unfolding first_record
first_past s past = rw (lt-leb _ _ past, and-false)

-- ---- the read at a place

module _ (s : List ℕ) (at : ℕ) where
  read_refused : {r : Refusal} → first_record (drop at s) ≡ Err r → read_at s at ≡ Err r
  unfolding read_at
  read_refused e = rw (e, read_at)

  read_given : {f : FirstRecord} → first_record (drop at s) ≡ Ok f → read_at s at ≡ Ok (record_view_at at f.first)
  unfolding read_at
  read_given e = rw (e, read_at)

  stated_at : at + 68 ≤ length s → record_data_length (drop at s) ≡ number_at 4 s (at + 64)
  unfolding record_data_length
  stated_at h = rw (drop-drop 64 at s) (sym (number_there 4 s (at + 64) (omega arith)))

  pub no_record_short : length s < at + 68 → read_at s at ≡ Err BadTable
  no_record_short h = read_refused (first_short (drop at s) (simp length-drop (omega arith)))

  module _ (long : at + 68 ≤ length s) where
    pub no_record_past : length s < at + 68 + number_at 4 s (at + 64) → read_at s at ≡ Err BadTable
    no_record_past h =
        let past : length (drop at s) < 68 + record_data_length (drop at s) = rw (length-drop at s, stated_at long) (omega arith) in
        read_refused (first_past (drop at s) past)

    pub record_there : at + 68 + number_at 4 s (at + 64) ≤ length s → read_at s at ≡ Ok (record { at = at; len = number_at 4 s (at + 64) })
    unfolding record_view_at
    record_there h =
        let whole : 68 ≤ length (drop at s) = rw (length-drop at s) (omega arith) in
        let there : 68 + record_data_length (drop at s) ≤ length (drop at s) = rw (length-drop at s, stated_at long) (omega arith) in
        let fits : record_data_length (drop at s) ≤ length (drop 68 (drop at s)) = rw (length-drop 68 (drop at s)) (omega arith) in
        read_given (first_given (drop at s) whole there)
        ∙ rw (length-take-le (record_data_length (drop at s)) (drop 68 (drop at s)) fits, stated_at long)

-- ---- what a first record is

-- what is known of the first record of some bytes and of the bytes after it
pub record IsFirst (s : List ℕ) (f : FirstRecord) : Type 0 where
  pub within : 68 + length f.first.payload ≤ length s
  pub key_is : f.first.key ≡ take 32 s
  pub owner_is : f.first.owner ≡ take 32 (drop 32 s)
  pub length_is : length f.first.payload ≡ record_data_length s
  pub payload_is : f.first.payload ≡ take (length f.first.payload) (drop 68 s)
  pub rest_is : f.rest ≡ drop (68 + length f.first.payload) s

first_is_of : (s : List ℕ) → 68 ≤ length s → 68 + record_data_length s ≤ length s → IsFirst s (first_of s)
first_is_of s long there =
    let exact : length (take (record_data_length s) (drop 68 s)) ≡ record_data_length s = length-take-le (record_data_length s) (drop 68 s) (simp length-drop (omega arith)) in
    record { within = rw exact there; key_is = refl; owner_is = refl; length_is = exact; payload_is = rw exact; rest_is = rw exact }

pub first_is : (s : List ℕ) (f : FirstRecord) → first_record s ≡ Ok f → IsFirst s f
unfolding first_record
first_is s f e =
    let (t, same) = chosen_given (is_whole s) (Ok (first_of s)) BadTable f e in
    let g : first_of s ≡ f = cc in
    let (long, there) = (and-eq-true_iff _ _).0 t in
    subst (λ (x : FirstRecord). IsFirst s x) g (first_is_of s (leb-true _ _ long) (leb-true _ _ there))

pub first_refusal_lem : (s : List ℕ) (r : Refusal) → first_record s ≡ Err r → r ≡ BadTable
unfolding first_record
first_refusal_lem s r e =
    chosen_refused (is_whole s) (Ok (first_of s)) BadTable r
    (given_not_refused (first_of s) BadTable r) e

-- ---- cutting, a record at a time

pub cut_end : (s : List ℕ) → length s ≤ 0 → cut_records 0 s ≡ Ok []
unfolding cut_records
cut_end [] h = refl
cut_end (b ∷ s) h = absurd (not-suc-le-zero h)

pub cut_more : (s : List ℕ) → 0 < length s → cut_records 0 s ≡ Err BadTable
unfolding cut_records
cut_more [] h = absurd (not-suc-le-zero h)
cut_more (b ∷ s) h = refl

pub cut_refused : (n : ℕ) (s : List ℕ) {r : Refusal} → first_record s ≡ Err r → cut_records (suc n) s ≡ Err r
unfolding cut_records
cut_refused n s e = rw (e, cut_records)

pub cut-first : (n : ℕ) (s : List ℕ) {f : FirstRecord} → first_record s ≡ Ok f
    → cut_records (suc n) s ≡ change (λ (l : List Record). f.first ∷ l) (cut_records n f.rest)
unfolding cut_records
cut-first n s e = rw (e, cut_records)

-- ---- what a read's answer says of the first record

module _ (s : List ℕ) (at : ℕ) where
  pub view_first : (v : RecordView) → read_at s at ≡ Ok v → (f : FirstRecord) × (first_record (drop at s) ≡ Ok f) × (record_view_at at f.first ≡ v)
  view_first v h = go (first_record (drop at s)) refl
    where
      go : (x : Refusable FirstRecord) → first_record (drop at s) ≡ x → (f : FirstRecord) × (first_record (drop at s) ≡ Ok f) × (record_view_at at f.first ≡ v)
      go (Ok f) e = let same = read_given s at e in (f, e, cc)
      go (Err r) e = let same = read_refused s at e in absurd (let z : ◌≡◌ {A = ℕ} 0 1 = cc in omega arith)

  pub refused_first : (r : Refusal) → read_at s at ≡ Err r → first_record (drop at s) ≡ Err r
  refused_first r h = go (first_record (drop at s)) refl
    where
      go : (x : Refusable FirstRecord) → first_record (drop at s) ≡ x → first_record (drop at s) ≡ Err r
      go (Ok f) e = let same = read_given s at e in absurd (let z : ◌≡◌ {A = ℕ} 0 1 = cc in omega arith)
      go (Err q) e = let same = read_refused s at e in cc

-- ---- the count

module _ (s : List ℕ) where
  pub table_short : length s < 2 → cut_table s ≡ Err BadTable
  unfolding cut_table
  table_short h = rw (lt-leb _ _ h)

  module _ (long : 2 ≤ length s) (counted : ℕ) (e : counted ≡ number_at 2 s 0) where
    count_there : number (take 2 s) ≡ counted
    count_there = sym (e ∙ number_there 2 s 0 (omega arith))

    pub table_too_many : 64 < counted → cut_table s ≡ Err BadTable
    unfolding cut_table
    table_too_many h = rw (count_there, lt-leb _ _ h, and-false)

    pub table_counted : counted ≤ 64 → cut_table s ≡ cut_records counted (drop 2 s)
    unfolding cut_table
    table_counted h = rw (count_there, le-leb _ _ long, le-leb _ _ h)
