-- Why a contract of equations leaves one outcome: whatever meets it equals what the definition gives. An outcome is a result with what
-- each lent buffer holds at exit, as one tuple.
-- Assumes nothing.
use Rattle.std.specs.Prelude.{◌≡◌}
use Rattle.std.proofs.Common.{sym, ◌∙◌}

pub one-outcome {ℓ} : {A : Type ℓ} {defined x y : A} → x ≡ defined → y ≡ defined → x ≡ y
one-outcome p q = p ∙ sym q
