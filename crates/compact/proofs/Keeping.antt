-- Laws of what the reader keeps of the entries: how far a list is read where something is kept of each, and the program indexes that are.
-- Assumes nothing.
use Prim.Native.Nat.{ℕ, ◌<◌, ◌≤◌}
use mathlib.Core.Path.{◌≡◌, refl, sym, ap₂, ◌∙◌}
use mathlib.Core.List.{List, [], ◌∷◌, ◌++◌, map}
use native.Mathlib.Omega.{arith}
use lib.ListN.{length, get_or, drop}
use Rattle.std.specs.List.{AllZip}
use Rattle.std.proofs.lemmas.Slice.Zip.{all_zipped_more, AllZip-long}
use Rattle.answer.specs.declared.Refusal.{Refusal}
use Rattle.answer.specs.Refusable.{Refusable, Ok, Err}
use Rattle.compact.specs.declared.Entry.{Entry}
use Rattle.compact.specs.Compact.{most_instructions, decode_one}
use Rattle.compact.specs.Views.{entries_of, reading, head_of, Kept}
use Rattle.compact.proofs.Reading.{ReadSoFar, read_none, read_all, read_short, read_one}

-- how far a list is read where something is kept of each entry
pub record KeptSoFar {T : Type 0} (keeps : Entry → T → Type 0) (bytes : List ℕ) (count : ℕ) (kept : List T) (at : ℕ) : Type 0 where
  pub done : List Entry
  pub each : AllZip keeps done kept
  pub so_far : ReadSoFar bytes count done at

module _ {T : Type 0} (keeps : Entry → T → Type 0) where
  pub kept_none : (bytes : List ℕ) → 0 < length bytes → get_or bytes 0 0 ≤ most_instructions → KeptSoFar keeps bytes (get_or bytes 0 0) [] 1
  kept_none bytes some_byte few = record { done = []; each = tt; so_far = read_none bytes some_byte few }

  module _ {bytes : List ℕ} {count : ℕ} {kept : List T} {at : ℕ} (far : KeptSoFar keeps bytes count kept at) where
    many : length far.done ≡ length kept
    many = sym (AllZip-long keeps far.done kept far.each)

    pub kept_all : count ≤ length kept → Kept keeps (reading bytes) (Ok (record { items = kept }, at))
    kept_all last = (record { entries = entries_of far.done; consumed = at }, read_all far.so_far (omega (arith, many, last)), far.each, refl)

    -- what reading the instruction at the place answers
    module _ (more : length kept < count) (answer : Refusable (Entry × ℕ)) (is : answer ≡ head_of at (decode_one (drop at bytes))) where
      pub kept_short : (r : Refusal) → answer ≡ Err r → reading bytes ≡ Err r
      kept_short r e = read_short far.so_far (omega (arith, many, more)) r (sym is ∙ e)

      pub kept_one : (head : Entry × ℕ) (k : T) → answer ≡ Ok head → keeps head.0 k → KeptSoFar keeps bytes count (kept ++ (k ∷ [])) head.1
      kept_one head k e one =
          record {
            done = far.done ++ (head.0 ∷ []);
            each = all_zipped_more keeps far.done kept head.0 k far.each one;
            so_far = read_one far.so_far (omega (arith, many, more)) head (sym is ∙ e);
          }

-- the program indexes that are kept
pub programs_kept : (keeps : Entry → ℕ → Type 0) → ((e : Entry) (k : ℕ) → keeps e k → k ≡ e.program) → (es : List Entry) (ks : List ℕ)
    → AllZip keeps es ks → ks ≡ map (λ (e : Entry). e.program) es
programs_kept keeps same [] [] h = refl
programs_kept keeps same [] (k ∷ ks) h = absurd h
programs_kept keeps same (e ∷ es) [] h = absurd h
programs_kept keeps same (e ∷ es) (k ∷ ks) h = ap₂ ◌∷◌ (same e k h.0) (programs_kept keeps same es ks h.1)
