-- Bytes that hold a whole opening or a whole call tell all of it: more input behind them changes nothing, so a reader may stop there.
-- What was read is there, and a call's parts follow its head.
-- Assumes nothing.
use Prim.Native.Nat.{ℕ, ◌+◌, ◌-◌, ◌<◌, ◌≤◌}
use mathlib.Core.Path.{◌≡◌, sym, ap, ◌∙◌}
use mathlib.Core.List.{List, ◌++◌, append_assoc}
use mathlib.Core.Logic.{◌⊎◌, inl, inr, ⊎_elim}
use native.Mathlib.Nat.{eq-zero-or-pos}
use native.Mathlib.Omega.{arith}
use lib.ListN.{length, take, drop, length-append}
use lib.Seq.{take-add}
use Rattle.number.specs.Number.{Bytes, number, number_at}
use Rattle.number.proofs.Laws.{number_there, number_not_there, read_below}
use Rattle.part.proofs.Laws.{part_there, part_before_more}
use Rattle.frame.specs.declared.CallView.{CallView}
use Rattle.frame.specs.declared.Front.TheVariants.{Whole, Long, Short}
use Rattle.frame.specs.Frame.{region_length_size, call_head, most_parts, opening_size, opening_region, part_in, parts_length, whole_call, front_of}
use Rattle.frame.specs.Views.{call_size}
use Rattle.frame.proofs.Frames.{size_short, size_long, size_there, front_short, front_long, front_past, front_there}

pub le_or_lt : (a b : ℕ) → (a ≤ b) ⊎ (b < a)
le_or_lt a b = ⊎_elim (λ e. inl (omega arith)) (λ p. inr (omega arith)) (eq-zero-or-pos (a - b))

-- bytes that lie before more input
front : (s t : List ℕ) (at len : ℕ) → at + len ≤ length s → take len (drop at (s ++ t)) ≡ take len (drop at s)
front s t at len h =
    let longer : at + len ≤ length (s ++ t) = simp length-append (omega arith) in
    sym (part_there (s ++ t) at len longer) ∙ part_before_more s t at len h ∙ part_there s at len h

number_before_more : (width : ℕ) (s t : List ℕ) (at : ℕ) → at + width ≤ length s → number_at width (s ++ t) at ≡ number_at width s at
number_before_more width s t at h =
    let longer : at + width ≤ length (s ++ t) = simp length-append (omega arith) in
    number_there width (s ++ t) at longer ∙ ap number (front s t at width h) ∙ sym (number_there width s at h)

-- ---- the opening

pub opening_size_short : (s : List ℕ) → length s < region_length_size → opening_size s ≡ region_length_size
opening_size_short s h = rw (number_not_there 2 s 0 (omega arith))

pub opening_size_at_least : (s : List ℕ) → region_length_size ≤ opening_size s
opening_size_at_least s = omega arith

pub opening_size_at_most : (s : List ℕ) → Bytes s → opening_size s ≤ 65537
opening_size_at_most s h = let below = read_below 2 s 0 h in omega arith

pub opening_size_before_more_input : (s t : List ℕ) → region_length_size ≤ length s → opening_size (s ++ t) ≡ opening_size s
opening_size_before_more_input s t h = rw (number_before_more 2 s t 0 (omega arith))

pub opening_region_before_more_input : (s t : List ℕ) → opening_size s ≤ length s → opening_region (s ++ t) ≡ opening_region s
unfolding opening_region
opening_region_before_more_input s t h =
    rw (number_before_more 2 s t 0 (omega arith)) (front s t region_length_size (number_at 2 s 0) (omega arith))

-- ---- a call

-- how a call's size and what is read of it depend on the bytes: short of a head, too long, or its parts counted
pub data Sized (s : List ℕ) : Type 0 where
  short : length s < call_head → call_size s ≡ call_head → front_of s ≡ Short → Sized s
  long : call_head ≤ length s → most_parts < parts_length s → call_size s ≡ call_head → front_of s ≡ Long → Sized s
  past : call_head ≤ length s → parts_length s ≤ most_parts → call_size s ≡ call_head + parts_length s → length s < call_size s → front_of s ≡ Short → Sized s
  there : call_head ≤ length s → parts_length s ≤ most_parts → call_size s ≡ call_head + parts_length s → call_size s ≤ length s
      → front_of s ≡ Whole (whole_call s) → Sized s

pub sized : (s : List ℕ) → Sized s
sized s =
    ⊎_elim
    (λ head.
    ⊎_elim
    (λ fits.
    let size = size_there s head fits in
    ⊎_elim
    (λ all. there head fits size (rw size all) (front_there s head fits all))
    (λ cut. past head fits size (rw size cut) (front_past s head fits cut))
    (le_or_lt (call_head + parts_length s) (length s)))
    (λ over. long head over (size_long s head over) (front_long s head over))
    (le_or_lt (parts_length s) most_parts))
    (λ less. short less (size_short s less) (front_short s less))
    (le_or_lt call_head (length s))

pub call_size_at_least : (s : List ℕ) → call_head ≤ call_size s
call_size_at_least s = go (sized s)
  where
    go : Sized s → call_head ≤ call_size s
    go (short _ e _) = omega arith
    go (long _ _ e _) = omega arith
    go (past _ _ e _ _) = omega arith
    go (there _ _ e _ _) = omega arith

pub call_size_at_most : (s : List ℕ) → call_size s ≤ call_head + most_parts
call_size_at_most s = go (sized s)
  where
    go : Sized s → call_size s ≤ call_head + most_parts
    go (short _ e _) = omega arith
    go (long _ _ e _) = omega arith
    go (past _ f e _ _) = omega arith
    go (there _ f e _ _) = omega arith

module _ (s t : List ℕ) (head : call_head ≤ length s) where
  same_length : parts_length (s ++ t) ≡ parts_length s
  unfolding parts_length
  same_length =
      let a = number_before_more 4 s t 32 (omega arith) in
      let b = number_before_more 4 s t 36 (omega arith) in
      let c = number_before_more 4 s t 40 (omega arith) in
      rw (a, b, c)

  pub whole_call_before_more_input : whole_call (s ++ t) ≡ whole_call s
  unfolding whole_call
  whole_call_before_more_input =
      let slot = number_before_more 8 s t 0 (omega arith) in
      let before = number_before_more 8 s t 8 (omega arith) in
      let after = number_before_more 8 s t 16 (omega arith) in
      let gross = number_before_more 8 s t 24 (omega arith) in
      let a = number_before_more 4 s t 32 (omega arith) in
      let b = number_before_more 4 s t 36 (omega arith) in
      let c = number_before_more 4 s t 40 (omega arith) in
      rw (slot, before, after, gross, a, b, c)

  longer : call_head ≤ length (s ++ t)
  longer = simp length-append (omega arith)

  pub call_size_before_more_input : call_size (s ++ t) ≡ call_size s
  call_size_before_more_input =
      ⊎_elim
      (λ fits. size_there (s ++ t) longer (rw same_length fits) ∙ rw same_length (sym (size_there s head fits)))
      (λ over. size_long (s ++ t) longer (rw same_length over) ∙ sym (size_long s head over))
      (le_or_lt (parts_length s) most_parts)

pub front_before_more_input : (s t : List ℕ) → call_size s ≤ length s → front_of (s ++ t) ≡ front_of s
front_before_more_input s t h = go (sized s)
  where
    go : Sized s → front_of (s ++ t) ≡ front_of s
    go (short less e _) = absurd (omega arith)
    go (long head over _ e) = front_long (s ++ t) (longer s t head) (rw (same_length s t head) over) ∙ sym e
    go (past _ _ _ cut _) = absurd (omega arith)
    go (there head fits size all e) =
        let more : call_head + parts_length (s ++ t) ≤ length (s ++ t) = rw (same_length s t head) (simp length-append (omega arith)) in
        front_there (s ++ t) (longer s t head) (rw (same_length s t head) fits) more
        ∙ rw (whole_call_before_more_input s t head) (sym e)

-- a call that was read is the whole call, its parts are there, and they keep to the limit
pub record CallIsThere (s : List ℕ) (c : CallView) : Type 0 where
  pub whole : c ≡ whole_call s
  pub fits : parts_length s ≤ most_parts
  pub size : call_size s ≡ call_head + parts_length s
  pub all : call_size s ≤ length s

pub call_is_there : (s : List ℕ) (c : CallView) → front_of s ≡ Whole c → CallIsThere s c
call_is_there s c e = go (sized s)
  where
    go : Sized s → CallIsThere s c
    go (short _ _ f) = absurd (let z : ◌≡◌ {A = ℕ} 0 1 = cc in omega arith)
    go (long _ _ _ f) = absurd (let z : ◌≡◌ {A = ℕ} 0 1 = cc in omega arith)
    go (past _ _ _ _ f) = absurd (let z : ◌≡◌ {A = ℕ} 0 1 = cc in omega arith)
    go (there _ fits size all f) = record { whole = cc; fits = fits; size = size; all = all }

pieces : (s : List ℕ) (h a b c : ℕ)
    → take h s ++ (take a (drop h s) ++ (take b (drop (h + a) s) ++ take c (drop (h + a + b) s))) ≡ take (h + (a + b + c)) s
pieces s h a b c =
    let e : h + (a + b + c) ≡ h + a + b + c = omega arith in
    sym (rw (e, take-add (h + a + b) c s, take-add (h + a) b s, take-add h a s) (simp append_assoc))

-- the three parts follow the head, one after the other and nothing between
pub parts_follow_the_head : (s : List ℕ) → call_head + parts_length s ≤ length s
    → take call_head s
    ++ (part_in s (whole_call s).before ++ (part_in s (whole_call s).after ++ part_in s (whole_call s).instructions))
    ≡ take (call_head + parts_length s) s
unfolding parts_length whole_call
parts_follow_the_head s h =
    let before = part_there s (whole_call s).before.at (whole_call s).before.len (omega arith) in
    let after = part_there s (whole_call s).after.at (whole_call s).after.len (omega arith) in
    let instructions = part_there s (whole_call s).instructions.at (whole_call s).instructions.len (omega arith) in
    rw (before, after, instructions) (pieces s call_head (number_at 4 s 32) (number_at 4 s 36) (number_at 4 s 40))
