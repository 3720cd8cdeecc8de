-- A table's places name the records that were cut.
-- Assumes nothing.
use mathlib.Core.Path.{◌≡◌, refl, sym, ap, ap₂, ◌∙◌}
use mathlib.Core.List.{List, ◌∷◌, map}
use Prim.Native.Nat.{ℕ, zero, suc, ◌+◌}
use native.Mathlib.Omega.{arith}
use lib.ListN.{length, drop, length-map}
use lib.Seq.{drop-drop}
use Rattle.arrayvec.specs.ArrayVec.{ArrayVec}
use Rattle.answer.specs.declared.Refusal.{Refusal}
use Rattle.answer.specs.Refusable.{Refusable, Ok, Err}
use Rattle.part.specs.Part.{part_at}
use Rattle.part.proofs.Laws.{part_there}
use Rattle.account.specs.declared.RecordView.{RecordView}
use Rattle.account.specs.Record.{Record}
use Rattle.account.specs.Views.{record_at, records_in}
use Rattle.table.specs.Table.{FirstRecord, cut_records, cut_table, records_of}
use Rattle.table.specs.Views.{record_view_at, record_views_from, places_of, items_of}
use Rattle.table.proofs.Cutting.{IsFirst}
use Rattle.table.proofs.Given.{none_given, one_given, table_given}

-- the view of the first record at a place names it
first_named : (s : List ℕ) (at : ℕ) (f : FirstRecord) → IsFirst (drop at s) f → record_at s (record_view_at at f.first) ≡ f.first
unfolding record_at record_view_at
first_named s at f facts =
    let rest = drop at s in
    let inside = facts.within in
    let key : part_at rest 0 32 ≡ f.first.key = part_there rest 0 32 (omega arith) ∙ sym facts.key_is in
    let owner : part_at rest 32 32 ≡ f.first.owner = part_there rest 32 32 (omega arith) ∙ sym facts.owner_is in
    let payload : part_at rest 68 (length f.first.payload) ≡ f.first.payload =
    part_there rest 68 (length f.first.payload) inside ∙ sym facts.payload_is in
    rw (key, owner, payload)

-- the views of the records cut at a place name them
placed_named : (n : ℕ) (s : List ℕ) (at : ℕ) (l : List Record) → cut_records n (drop at s) ≡ Ok l → map (record_at s) (record_views_from at l) ≡ l
unfolding record_views_from
placed_named zero s at l e = let (_, none) = none_given (drop at s) l e in rw none
placed_named (suc n) s at l e =
    let g = one_given n (drop at s) l e in
    let r = g.one.first in
    let next : at + (68 + length r.payload) ≡ at + 68 + length r.payload = omega arith in
    let after : g.one.rest ≡ drop (at + 68 + length r.payload) s =
    g.is_first.rest_is ∙ drop-drop (68 + length r.payload) at s ∙ ap (λ (k : ℕ). drop k s) next in
    let others = placed_named n s (at + 68 + length r.payload) g.others (rw after at g.rest_given) in
    rw g.all (ap₂ (λ (a : Record) (m : List Record). a ∷ m) (first_named s at g.one g.is_first) others)

-- ---- what a cut table's places say

places_name : (s : List ℕ) (x : Refusable (List Record)) → cut_table s ≡ x → records_in s (items_of (places_of x)) ≡ records_of x
unfolding records_in places_of
places_name s (Ok l) e = placed_named _ s 2 l (table_given s l e).records_given
places_name s (Err r) e = refl

-- the places name the records of the table
pub records_of_places : (s : List ℕ) → records_in s (items_of (places_of (cut_table s))) ≡ records_of (cut_table s)
records_of_places s = places_name s (cut_table s) refl

-- what cutting a table into places refuses, cutting it into records does
pub table_malformed : (s : List ℕ) (r : Refusal) → places_of (cut_table s) ≡ Err r → cut_table s ≡ Err r
unfolding places_of
table_malformed s r h = go (cut_table s) refl
  where
    go : (x : Refusable (List Record)) → cut_table s ≡ x → cut_table s ≡ Err r
    go (Ok l) e = let laid = ap places_of e in absurd (let z : ◌≡◌ {A = ℕ} 0 1 = cc in omega arith)
    go (Err q) e = let none = ap places_of e in e ∙ ap Err cc

-- and where it gives places, they are as many as the records, and name them
pub table_sound : (s : List ℕ) (views : ArrayVec RecordView) → places_of (cut_table s) ≡ Ok views
    → (cut_table s ≡ Ok (records_in s views.items)) × (length (records_in s views.items) ≡ length views.items)
unfolding places_of records_in
table_sound s views h = (go (cut_table s) refl, simp length-map)
  where
    go : (x : Refusable (List Record)) → cut_table s ≡ x → cut_table s ≡ Ok (records_in s views.items)
    go (Ok l) e =
        let same : views ≡ record { items = record_views_from 2 l } = let laid = ap places_of e in cc in
        e ∙ ap Ok (rw same (sym (places_name s (Ok l) e)))
    go (Err r) e = let none = ap places_of e in absurd (let z : ◌≡◌ {A = ℕ} 0 1 = cc in omega arith)
