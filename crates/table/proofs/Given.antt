-- What a cut that gave records says of the bytes, and what one that refused says of its answer.
-- Assumes nothing.
use mathlib.Core.Path.{◌≡◌, refl, sym, ap, ◌∙◌}
use mathlib.Core.Bool.{◌&&◌, and-eq-true_iff}
use mathlib.Core.List.{List, [], ◌∷◌}
use Prim.Native.Nat.{ℕ, zero, suc, ◌≤◌}
use native.Mathlib.Omega.{arith}
use borrow.Author.Tests.{leb-true}
use lib.Dec.{leb}
use lib.ListN.{length, take, drop}
use Rattle.answer.specs.declared.Refusal.TheVariants.{BadTable}
use Rattle.answer.specs.declared.Refusal.{Refusal}
use Rattle.answer.specs.Refusable.{Refusable, Ok, Err}
use Rattle.answer.proofs.Refusing.{chosen_given, chosen_refused, one_more_given, one_more_refused}
use Rattle.number.specs.Number.{number}
use Rattle.account.specs.Record.{Record}
use Rattle.table.specs.Table.{FirstRecord, first_record, cut_records, cut_table}
use Rattle.table.proofs.Cutting.{IsFirst, first_is, first_refusal_lem, cut-first, cut_refused}

-- no bytes are left after the last record
pub none_given : (s : List ℕ) (l : List Record) → cut_records 0 s ≡ Ok l → (s ≡ []) × (l ≡ [])
unfolding cut_records
none_given [] l e = (refl, cc)
none_given (b ∷ s) l e = absurd (let z : ◌≡◌ {A = ℕ} 0 1 = cc in omega arith)

-- the first record, and the rest of the records from the rest of the bytes
pub record OneGiven (n : ℕ) (s : List ℕ) (l : List Record) : Type 0 where
  pub one : FirstRecord
  pub others : List Record
  pub is_first : IsFirst s one
  pub rest_given : cut_records n one.rest ≡ Ok others
  pub all : l ≡ one.first ∷ others

pub one_given : (n : ℕ) (s : List ℕ) (l : List Record) → cut_records (suc n) s ≡ Ok l → OneGiven n s l
one_given n s l e = go (first_record s) refl
  where
    go : (x : Refusable FirstRecord) → first_record s ≡ x → OneGiven n s l
    go (Ok f) h =
        let (m, p, q) = one_more_given (cut_records n f.rest) f.first l (sym (cut-first n s h) ∙ e) in
        record { one = f; others = m; is_first = first_is s f h; rest_given = p; all = q }
    go (Err r) h = let stopped = cut_refused n s h in absurd (let z : ◌≡◌ {A = ℕ} 0 1 = cc in omega arith)

-- as many records as were counted
pub given_length : (n : ℕ) (s : List ℕ) (l : List Record) → cut_records n s ≡ Ok l → length l ≡ n
given_length zero s l e = let (_, none) = none_given s l e in rw none
given_length (suc n) s l e =
    let g = one_given n s l e in
    rw g.all (ap suc (given_length n g.one.rest g.others g.rest_given))

-- what is known of a table that was cut
pub record TableGiven (s : List ℕ) (l : List Record) : Type 0 where
  pub long : 2 ≤ length s
  pub few : number (take 2 s) ≤ 64
  pub records_given : cut_records (number (take 2 s)) (drop 2 s) ≡ Ok l

pub table_given : (s : List ℕ) (l : List Record) → cut_table s ≡ Ok l → TableGiven s l
unfolding cut_table
table_given s l e =
    let (t, g) = chosen_given _ (cut_records (number (take 2 s)) (drop 2 s)) BadTable l e in
    let (long, few) = (and-eq-true_iff _ _).0 t in
    record { long = leb-true _ _ long; few = leb-true _ _ few; records_given = g }

-- ---- refusals

-- a refusal is that of the first record or that of the rest
one_refused : (n : ℕ) (s : List ℕ) (r : Refusal) → cut_records (suc n) s ≡ Err r
    → ((t : List ℕ) → cut_records n t ≡ Err r → r ≡ BadTable) → r ≡ BadTable
one_refused n s r e rest = go (first_record s) refl
  where
    go : (x : Refusable FirstRecord) → first_record s ≡ x → r ≡ BadTable
    go (Ok f) h = rest f.rest (one_more_refused (cut_records n f.rest) f.first r (sym (cut-first n s h) ∙ e))
    go (Err q) h =
        let stopped = cut_refused n s h in
        let same : r ≡ q = cc in
        same ∙ first_refusal_lem s q h

records_refusal : (n : ℕ) (s : List ℕ) (r : Refusal) → cut_records n s ≡ Err r → r ≡ BadTable
unfolding cut_records
records_refusal zero [] r e = absurd (let z : ◌≡◌ {A = ℕ} 0 1 = cc in omega arith)
records_refusal zero (b ∷ s) r e = cc
records_refusal (suc n) s r e = one_refused n s r e (λ t. records_refusal n t r)

-- every refusal of a table is the one number
pub table_refusal : (s : List ℕ) (r : Refusal) → cut_table s ≡ Err r → r ≡ BadTable
unfolding cut_table
table_refusal s r e =
    chosen_refused (leb 2 (length s) && leb (number (take 2 s)) 64) (cut_records (number (take 2 s)) (drop 2 s)) BadTable r
    (records_refusal (number (take 2 s)) (drop 2 s) r) e
