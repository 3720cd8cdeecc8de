-- The program indexes that a judged call reads are those of the list that decoding gives, and it is refused where decoding gives none.
-- Assumes nothing.
use Prim.Native.Nat.{ℕ, ◌+◌}
use mathlib.Core.Path.{◌≡◌, refl, sym, ap, ◌∙◌}
use mathlib.Core.List.{List, [], ◌∷◌, map}
use mathlib.Core.Option.{Option, none, some}
use native.Mathlib.Omega.{arith}
use lib.ListN.{length}
use Rattle.arrayvec.specs.ArrayVec.{ArrayVec}
use Rattle.answer.specs.declared.Refusal.{Refusal}
use Rattle.answer.specs.declared.Refusal.TheVariants.{InvalidInstructionData}
use Rattle.answer.specs.Refusable.{Ok, Err}
use Rattle.compact.specs.declared.Entry.{Entry}
use Rattle.compact.specs.Compact.{Instruction, Read, encode_one, decode}
use Rattle.compact.specs.Views.{entry_at, entries_from, reading_refused, reading, parsed_programs}
use Rattle.compact.proofs.Reading.{outcome, reading_of}

programs_placed : (at : ℕ) (is : List Instruction) → map (λ (e : Entry). e.program) (entries_from at is) ≡ map (λ (i : Instruction). i.program) is
unfolding entries_from entry_at
programs_placed at [] = refl
programs_placed at (i ∷ is) = ap (λ (l : List ℕ). i.program ∷ l) (programs_placed (at + length (encode_one i)) is)

module _ (bytes : List ℕ) where
  programs_of_none : decode bytes ≡ none → parsed_programs (reading bytes) ≡ Err InvalidInstructionData
  unfolding parsed_programs outcome reading_refused
  programs_of_none e = ap parsed_programs (reading_of bytes none e)

  programs_of_some : (d : Read (List Instruction)) → decode bytes ≡ some d
      → parsed_programs (reading bytes) ≡ Ok (record { items = map (λ (i : Instruction). i.program) d.value })
  unfolding parsed_programs outcome
  programs_of_some d e = ap parsed_programs (reading_of bytes (some d) e) ∙ ap (λ (l : List ℕ). Ok (record { items = l })) (programs_placed 1 d.value)

  pub programs_refused : (r : Refusal) → parsed_programs (reading bytes) ≡ Err r → (decode bytes ≡ none) × (r ≡ InvalidInstructionData)
  programs_refused r h = go (decode bytes) refl
    where
      go : (o : Option (Read (List Instruction))) → decode bytes ≡ o → (decode bytes ≡ none) × (r ≡ InvalidInstructionData)
      go none e = let same = sym (programs_of_none e) ∙ h in (e, cc)
      go (some d) e = absurd (let no = sym (programs_of_some d e) ∙ h in let z : ◌≡◌ {A = ℕ} 0 1 = cc in omega arith)

  pub programs_given : (programs : ArrayVec ℕ) → parsed_programs (reading bytes) ≡ Ok programs
      → (d : Read (List Instruction)) × (decode bytes ≡ some d) × (programs.items ≡ map (λ (i : Instruction). i.program) d.value)
  programs_given programs h = go (decode bytes) refl
    where
      go : (o : Option (Read (List Instruction))) → decode bytes ≡ o
          → (d : Read (List Instruction)) × (decode bytes ≡ some d) × (programs.items ≡ map (λ (i : Instruction). i.program) d.value)
      go none e = absurd (let no = sym (programs_of_none e) ∙ h in let z : ◌≡◌ {A = ℕ} 0 1 = cc in omega arith)
      go (some d) e = let same = sym h ∙ programs_of_some d e in (d, e, cc)
