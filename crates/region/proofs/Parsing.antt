-- How far a region is cut: the actions done, where their views lie, and that cutting the rest gives what cutting the whole gives.
-- Assumes nothing.
use mathlib.Core.Path.{◌≡◌, refl, sym, ap, subst, ◌∙◌}
use mathlib.Core.List.{List, [], ◌∷◌, ◌++◌, append-nil}
use Prim.Native.Nat.{ℕ, suc, ◌+◌, ◌-◌, ◌<◌, ◌≤◌}
use native.Mathlib.Omega.{arith}
use lib.ListN.{length, drop, length-append, length-drop}
use lib.Seq.{drop-drop}
use Rattle.answer.specs.declared.Refusal.{Refusal}
use Rattle.answer.specs.declared.Refusal.TheVariants.{ActionBufferInvalid}
use Rattle.answer.specs.Refusable.{Ok, Err, change}
use Rattle.answer.proofs.Refusing.{none_in_front, more_in_front}
use Rattle.action.specs.declared.ActionView.{ActionView}
use Rattle.action.specs.Action.{Action}
use Rattle.region.specs.Region.{First, first, cut, most_actions}
use Rattle.region.specs.Views.{action_view_at, header_at, action_views_from, views_of}
use Rattle.region.proofs.Cutting.{IsFirst, first_is, cut_end, cut_full, cut_refused, cut-first, view_first, refused_first}

-- the place after some actions that are laid from a place
pub end_of : ℕ → List Action → ℕ
end_of place [] = place
end_of place (a ∷ l) = end_of (place + 11 + length a.payload) l

placed_append : (place : ℕ) (l : List Action) (a : Action) → action_views_from place (l ++ (a ∷ [])) ≡ action_views_from place l ++ (action_view_at (end_of place l) a ∷ [])
unfolding action_views_from end_of
placed_append place [] a = refl
placed_append place (b ∷ l) a = ap (λ (vs : List ActionView). action_view_at place b ∷ vs) (placed_append (place + 11 + length b.payload) l a)

pub length_placed : (place : ℕ) (l : List Action) → length (action_views_from place l) ≡ length l
unfolding action_views_from
length_placed place [] = refl
length_placed place (a ∷ l) = ap suc (length_placed (place + 11 + length a.payload) l)

end_append : (place : ℕ) (l : List Action) (a : Action) → end_of place (l ++ (a ∷ [])) ≡ end_of place l + 11 + length a.payload
unfolding end_of
end_append place [] a = refl
end_append place (b ∷ l) a = end_append (place + 11 + length b.payload) l a

-- how far a region is cut: the views so far, and the place that the next header starts at
pub record CutSoFar (s : List ℕ) (views : List ActionView) (at : ℕ) : Type 0 where
  pub done : List Action
  pub laid : views ≡ action_views_from 0 done
  pub most : length views ≤ 16
  pub within : at ≤ length s
  pub ends : end_of 0 done ≡ at
  pub same : cut 16 s ≡ change (λ (l : List Action). done ++ l) (cut (16 - length views) (drop at s))

pub cut_none : (s : List ℕ) → CutSoFar s [] 0
unfolding action_views_from end_of
cut_none s = record {
  done = [];
  laid = refl;
  most = omega arith;
  within = omega arith;
  ends = refl;
  same = sym (none_in_front (cut 16 s));
}

module _ {s : List ℕ} {views : List ActionView} {at : ℕ} (so_far : CutSoFar s views at) where
  -- all is cut
  pub cut_all : length s ≤ at → views_of (cut most_actions s) ≡ Ok (record { items = views })
  unfolding views_of
  cut_all h =
      let done = so_far.done in
      let none = cut_end (16 - length views) (drop at s) (simp length-drop (omega arith)) in
      let whole : cut 16 s ≡ Ok done = so_far.same ∙ rw none (ap Ok (append-nil done)) in
      rw (whole, so_far.laid)

  module _ (more : at < length s) where
    more_left : 0 < length (drop at s)
    more_left = simp length-drop (omega arith)

    -- one action too many
    pub cut_too_many : 16 ≤ length views → cut most_actions s ≡ Err ActionBufferInvalid
    cut_too_many h =
        let none_left : 16 - length views ≡ 0 = omega arith in
        so_far.same ∙ rw (none_left, cut_full (drop at s) more_left)

    module _ (room : length views < 16) where
      one_more : 16 - length views ≡ suc (15 - length views)
      one_more = omega arith

      -- the next header is refused
      pub cut-stopped : (r : Refusal) → header_at s at ≡ Err r → cut most_actions s ≡ Err r
      cut-stopped r h = so_far.same ∙ rw (one_more, cut_refused (15 - length views) (drop at s) more_left (refused_first s at r h))

      -- the next action is there
      cut_act : (f : First) → first (drop at s) ≡ Ok f → IsFirst (drop at s) f
          → CutSoFar s (views ++ (action_view_at at f.act ∷ [])) (at + 11 + length f.act.payload)
      cut_act f e facts =
          let done = so_far.done in
          let act = f.act in
          let inside = rw (length-drop at s) at facts.within in
          let longer : length (views ++ (action_view_at at act ∷ [])) ≡ length views + 1 = length-append views (action_view_at at act ∷ []) in
          let one_less : 16 - (length views + 1) ≡ 15 - length views = omega arith in
          let next : at + (11 + length act.payload) ≡ at + 11 + length act.payload = omega arith in
          let after : f.rest ≡ drop (at + 11 + length act.payload) s =
          facts.rest_is ∙ drop-drop (11 + length act.payload) at s ∙ ap (λ (n : ℕ). drop n s) next in
          record {
            done = done ++ (act ∷ []);
            laid = rw (placed_append 0 done act, so_far.ends, so_far.laid);
            most = rw longer (omega arith);
            within = omega arith;
            ends = end_append 0 done act ∙ rw so_far.ends;
            same =
                so_far.same
                ∙ rw (longer, one_more, one_less, cut-first (15 - length views) (drop at s) more_left e, after)
                (more_in_front done act (cut (15 - length views) (drop (at + 11 + length act.payload) s)));
          }

      -- the next header is that of an action
      module _ (v : ActionView) (h : header_at s at ≡ Ok v) where
        pub cut_moves : at < v.at + v.len
        unfolding action_view_at
        cut_moves = let (f, e, p) = view_first s at v h in rw (← p) (omega arith)

        pub cut_stays : v.at + v.len ≤ length s
        unfolding action_view_at
        cut_stays =
            let (f, e, p) = view_first s at v h in
            let facts = first_is (drop at s) f e in
            let inside = rw (length-drop at s) at facts.within in
            rw (← p) (omega arith)

        pub cut-one : CutSoFar s (views ++ (v ∷ [])) (v.at + v.len)
        unfolding action_view_at
        cut-one =
            let (f, e, p) = view_first s at v h in
            let facts = first_is (drop at s) f e in
            subst (λ (w : ActionView). CutSoFar s (views ++ (w ∷ [])) (w.at + w.len)) p (cut_act f e facts)
