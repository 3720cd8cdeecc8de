-- What a caller of the boundary may rest on beside the functions' contracts.
-- Assumes nothing.
use mathlib.Core.Path.{◌≡◌, refl, ap}
use mathlib.Core.List.{List}
use Prim.Native.Nat.{ℕ, ◌<◌}
use native.Mathlib.Omega.{arith}
use lib.ListN.{length}
use Rattle.answer.specs.declared.Refusal.TheVariants.{BadRegion}
use Rattle.answer.specs.Refusable.{Refusable, Ok, Err}
use Rattle.action.specs.Action.{Action}
use Rattle.creation.specs.Creation.{stored_actions}
use Rattle.creation.proofs.Theorems.{stored_at_most_1200}
use Rattle.judge.specs.Judge.{Call, soundness, steps, judged}
use Rattle.judge.proofs.Steps.{stored_refusal}

no_stored_form : (region : List ℕ) → 1200 < length region → stored_actions region ≡ Err BadRegion
no_stored_form region long = go (stored_actions region) refl
  where
    go : (x : Refusable (List Action)) → stored_actions region ≡ x → x ≡ Err BadRegion
    go (Ok l) e = let short = stored_at_most_1200 region l e in absurd (omega arith)
    go (Err r) e = ap Err (stored_refusal region r e)

-- regions of more than 1,200 bytes are answered alike, so the first 1,201 bytes of one stand for it
pub long_regions_are_answered_alike : (region other : List ℕ) (call : Call) → 1200 < length region → 1200 < length other → judged region call ≡ judged other call
unfolding judged steps soundness
long_regions_are_answered_alike region other call long long' = rw (no_stored_form region long, no_stored_form other long')
