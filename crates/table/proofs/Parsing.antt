-- How far a table is cut: the records done, where their views lie, and that cutting the rest gives what cutting the whole gives.
-- Assumes nothing.
use mathlib.Core.Path.{◌≡◌, refl, sym, ap, subst, ◌∙◌}
use mathlib.Core.List.{List, [], ◌∷◌, ◌++◌, append-nil}
use Prim.Native.Nat.{ℕ, suc, ◌+◌, ◌-◌, ◌<◌, ◌≤◌}
use native.Mathlib.Omega.{arith}
use lib.ListN.{length, drop, length-append, length-drop}
use lib.Seq.{drop-drop}
use Rattle.answer.specs.declared.Refusal.{Refusal}
use Rattle.answer.specs.declared.Refusal.TheVariants.{BadTable}
use Rattle.answer.specs.Refusable.{Ok, Err, change}
use Rattle.answer.proofs.Refusing.{none_in_front, more_in_front}
use Rattle.number.specs.Number.{number_at}
use Rattle.account.specs.declared.RecordView.{RecordView}
use Rattle.account.specs.Record.{Record}
use Rattle.table.specs.Table.{FirstRecord, first_record, cut_records, cut_table}
use Rattle.table.specs.Views.{record_view_at, read_at, record_views_from, places_of}
use Rattle.table.proofs.Cutting.{table_counted, IsFirst, first_is, cut_end, cut_more, cut_refused, cut-first, view_first, refused_first}

-- the place after some records that are laid from a place
pub end_of : ℕ → List Record → ℕ
end_of place [] = place
end_of place (r ∷ l) = end_of (place + 68 + length r.payload) l

placed_append : (place : ℕ) (l : List Record) (r : Record) → record_views_from place (l ++ (r ∷ [])) ≡ record_views_from place l ++ (record_view_at (end_of place l) r ∷ [])
unfolding record_views_from end_of
placed_append place [] r = refl
placed_append place (b ∷ l) r = ap (λ (vs : List RecordView). record_view_at place b ∷ vs) (placed_append (place + 68 + length b.payload) l r)

pub length_placed : (place : ℕ) (l : List Record) → length (record_views_from place l) ≡ length l
unfolding record_views_from
length_placed place [] = refl
length_placed place (r ∷ l) = ap suc (length_placed (place + 68 + length r.payload) l)

end_append : (place : ℕ) (l : List Record) (r : Record) → end_of place (l ++ (r ∷ [])) ≡ end_of place l + 68 + length r.payload
unfolding end_of
end_append place [] r = refl
end_append place (b ∷ l) r = end_append (place + 68 + length b.payload) l r

-- how far a table is cut: the views so far, and the place that the next record starts at
pub record CutSoFar (s : List ℕ) (counted : ℕ) (views : List RecordView) (at : ℕ) : Type 0 where
  pub done : List Record
  pub laid : views ≡ record_views_from 2 done
  pub most : length views ≤ counted
  pub few : counted ≤ 64
  pub within : at ≤ length s
  pub ends : end_of 2 done ≡ at
  pub same : cut_table s ≡ change (λ (l : List Record). done ++ l) (cut_records (counted - length views) (drop at s))

pub cut_none : (s : List ℕ) (counted : ℕ) → 2 ≤ length s → counted ≡ number_at 2 s 0 → counted ≤ 64 → CutSoFar s counted [] 2
unfolding record_views_from end_of
cut_none s counted long e few =
    let all : counted - 0 ≡ counted = omega arith in
    record {
      done = [];
      laid = refl;
      most = omega arith;
      few = few;
      within = long;
      ends = refl;
      same = table_counted s long counted e few ∙ rw all (sym (none_in_front (cut_records counted (drop 2 s))));
    }

module _ {s : List ℕ} {counted : ℕ} {views : List RecordView} {at : ℕ} (so_far : CutSoFar s counted views at) where
  module _ (last : counted ≤ length views) where
    none_left : counted - length views ≡ 0
    none_left = omega arith

    -- all is cut, and the last record ends the table
    pub cut_all : length s ≤ at → places_of (cut_table s) ≡ Ok (record { items = views })
    unfolding places_of
    cut_all h =
        let done = so_far.done in
        let end = cut_end (drop at s) (simp length-drop (omega arith)) in
        let whole : cut_table s ≡ Ok done = so_far.same ∙ rw (none_left, end) (ap Ok (append-nil done)) in
        rw (whole, so_far.laid)

    -- bytes after the last record
    pub cut_too_long : at < length s → cut_table s ≡ Err BadTable
    cut_too_long h = so_far.same ∙ rw (none_left, cut_more (drop at s) (simp length-drop (omega arith)))

  module _ (more : length views < counted) where
    one_more : counted - length views ≡ suc (counted - (length views + 1))
    one_more = omega arith

    -- the next record is refused
    pub cut-stopped : (r : Refusal) → read_at s at ≡ Err r → cut_table s ≡ Err r
    cut-stopped r h = so_far.same ∙ rw (one_more, cut_refused (counted - (length views + 1)) (drop at s) (refused_first s at r h))

    -- the next record is there
    cut_record : (f : FirstRecord) → first_record (drop at s) ≡ Ok f → IsFirst (drop at s) f
        → CutSoFar s counted (views ++ (record_view_at at f.first ∷ [])) (at + 68 + length f.first.payload)
    cut_record f e facts =
        let done = so_far.done in
        let r = f.first in
        let inside = rw (length-drop at s) at facts.within in
        let longer : length (views ++ (record_view_at at r ∷ [])) ≡ length views + 1 = length-append views (record_view_at at r ∷ []) in
        let next : at + (68 + length r.payload) ≡ at + 68 + length r.payload = omega arith in
        let after : f.rest ≡ drop (at + 68 + length r.payload) s =
        facts.rest_is ∙ drop-drop (68 + length r.payload) at s ∙ ap (λ (n : ℕ). drop n s) next in
        record {
          done = done ++ (r ∷ []);
          laid = rw (placed_append 2 done r, so_far.ends, so_far.laid);
          most = rw longer (omega arith);
          few = so_far.few;
          within = omega arith;
          ends = end_append 2 done r ∙ rw so_far.ends;
          same =
              so_far.same
              ∙ rw (longer, one_more, cut-first (counted - (length views + 1)) (drop at s) e, after)
              (more_in_front done r (cut_records (counted - (length views + 1)) (drop (at + 68 + length r.payload) s)));
        }

    -- the next read is that of a record
    module _ (v : RecordView) (h : read_at s at ≡ Ok v) where
      pub cut_stays : v.at + 68 + v.len ≤ length s
      unfolding record_view_at
      cut_stays =
          let (f, e, p) = view_first s at v h in
          let facts = first_is (drop at s) f e in
          let inside = rw (length-drop at s) at facts.within in
          rw (← p) (omega arith)

      pub cut-one : CutSoFar s counted (views ++ (v ∷ [])) (v.at + 68 + v.len)
      unfolding record_view_at
      cut-one =
          let (f, e, p) = view_first s at v h in
          let facts = first_is (drop at s) f e in
          subst (λ (w : RecordView). CutSoFar s counted (views ++ (w ∷ [])) (w.at + 68 + w.len)) p (cut_record f e facts)
