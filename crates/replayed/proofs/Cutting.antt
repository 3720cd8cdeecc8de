-- The calls in some bytes, by what the bytes begin with. How many calls there may be at most does not matter, as there are no more than bytes.
-- Assumes nothing.
use Prim.Native.Nat.{ℕ, zero, suc, ◌+◌, ◌<◌, ◌≤◌}
use mathlib.Core.Path.{◌≡◌, refl, sym, ap, ◌∙◌}
use mathlib.Core.Bool.{true, false}
use mathlib.Core.List.{List, [], ◌∷◌}
use native.Mathlib.Omega.{arith}
use native.Mathlib.Nat.{le_refl}
use borrow.Author.Tests.{lt-ltb}
use lib.ListN.{length, drop, length-drop}
use Rattle.frame.specs.declared.CallView.{CallView}
use Rattle.frame.specs.declared.Front.{Front}
use Rattle.frame.specs.declared.Front.TheVariants.{Whole, Long, Short}
use Rattle.frame.specs.Frame.{call_head, parts_length, front_of}
use Rattle.frame.proofs.Theorems.{call_is_there}
use Rattle.framed.specs.Framed.{call_in}
use Rattle.replayed.specs.Replay.{one_more, calls_up_to, calls_in}

none_left : (most : ℕ) → calls_up_to most [] ≡ record { list = []; is_cut = false }
unfolding calls_up_to front_of
none_left zero = refl
none_left (suc most) = refl

module _ (most : ℕ) (s : List ℕ) where
  pub up_to_whole : (c : CallView) → front_of s ≡ Whole c → calls_up_to (suc most) s ≡ one_more (call_in s c) (calls_up_to most (drop (call_head + parts_length s) s))
  unfolding calls_up_to
  up_to_whole c front = rw (front, calls_up_to)

  pub up_to_no_call : (f : Front) → front_of s ≡ f → ((c : CallView) → f ≡ Whole c → ⊥) → (calls_up_to (suc most) s).list ≡ []
  unfolding calls_up_to
  up_to_no_call (Whole c) front no' = absurd (no' c refl)
  up_to_no_call Long front no' = rw (front, calls_up_to)
  up_to_no_call Short front no' = rw (front, calls_up_to)

  up_to_long : front_of s ≡ Long → calls_up_to (suc most) s ≡ record { list = []; is_cut = true }
  unfolding calls_up_to
  up_to_long front = rw (front, calls_up_to)

  up_to_short : 0 < length s → front_of s ≡ Short → calls_up_to (suc most) s ≡ record { list = []; is_cut = true }
  unfolding calls_up_to
  up_to_short some front = rw (front, calls_up_to) (rw (lt-ltb _ _ some))

-- a whole call takes bytes
fewer : (s : List ℕ) (c : CallView) (most : ℕ) → front_of s ≡ Whole c → length s ≤ suc most → length (drop (call_head + parts_length s) s) ≤ most
fewer s c most front h =
    let there = call_is_there s c front in
    let all = there.all in
    let size = there.size in
    rw (length-drop (call_head + parts_length s) s) (omega arith)

abbrev AsMany : ℕ → ℕ → Type 0
AsMany m k = (s : List ℕ) → length s ≤ m → length s ≤ k → calls_up_to m s ≡ calls_up_to k s

no_bytes : (m k : ℕ) (s : List ℕ) → length s ≤ 0 → calls_up_to m s ≡ calls_up_to k s
no_bytes m k [] h = none_left m ∙ sym (none_left k)
no_bytes m k (b ∷ t) h = absurd (omega arith)

one_more_lem : (m k : ℕ) → AsMany m k → AsMany (suc m) (suc k)
one_more_lem m k more [] h l = no_bytes (suc m) (suc k) [] (omega arith)
one_more_lem m k more (b ∷ t) h l = go (front_of (b ∷ t)) refl
  where
    go : (f : Front) → front_of (b ∷ t) ≡ f → calls_up_to (suc m) (b ∷ t) ≡ calls_up_to (suc k) (b ∷ t)
    go (Whole c) e =
        up_to_whole m (b ∷ t) c e
        ∙ ap (one_more (call_in (b ∷ t) c)) (more (drop (call_head + parts_length (b ∷ t)) (b ∷ t)) (fewer (b ∷ t) c m e h) (fewer (b ∷ t) c k e l))
        ∙ sym (up_to_whole k (b ∷ t) c e)
    go Long e = up_to_long m (b ∷ t) e ∙ sym (up_to_long k (b ∷ t) e)
    go Short e = up_to_short m (b ∷ t) (omega arith) e ∙ sym (up_to_short k (b ∷ t) (omega arith) e)

-- any two numbers of calls that are not below the bytes' give the same
as_many_as_bytes : (m k : ℕ) → AsMany m k
as_many_as_bytes zero k = λ s h l. no_bytes zero k s h
as_many_as_bytes (suc m) zero = λ s h l. no_bytes (suc m) zero s l
as_many_as_bytes (suc m) (suc k) = one_more_lem m k (as_many_as_bytes m k)

-- ---- the laws

pub calls_none : calls_in [] ≡ record { list = []; is_cut = false }
unfolding calls_in
calls_none = none_left zero

module _ (s : List ℕ) where
  one_more_does : calls_in s ≡ calls_up_to (suc (length s)) s
  unfolding calls_in
  one_more_does = as_many_as_bytes (length s) (suc (length s)) s (le_refl _) (omega arith)

  pub calls_whole : (c : CallView) → front_of s ≡ Whole c → calls_in s ≡ one_more (call_in s c) (calls_in (drop (call_head + parts_length s) s))
  unfolding calls_in
  calls_whole c front =
      let rest = drop (call_head + parts_length s) s in
      one_more_does
      ∙ up_to_whole (length s) s c front
      ∙ ap (one_more (call_in s c)) (as_many_as_bytes (length s) (length rest) rest (fewer s c (length s) front (omega arith)) (le_refl _))

  pub calls_long : front_of s ≡ Long → calls_in s ≡ record { list = []; is_cut = true }
  calls_long front = one_more_does ∙ up_to_long (length s) s front

  pub calls_short : 0 < length s → front_of s ≡ Short → calls_in s ≡ record { list = []; is_cut = true }
  calls_short some front = one_more_does ∙ up_to_short (length s) s some front
