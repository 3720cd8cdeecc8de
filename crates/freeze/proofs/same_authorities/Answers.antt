-- `freeze::same_authorities` meets its contract, key by key.
-- Assumes nothing.
use Rattle.std.proofs.Common.{arith, ◌≡◌, ◌&&◌, sym, ◌∙◌}
use Rattle.number.specs.Number.{Bytes}
use Rattle.freeze.specs.Views.{same_key_at, same_optional_key_at}
use Rattle.freeze.proofs.Authorities.{authorities_as_keys}
use Rattle.freeze.proofs.same_authorities.Goals.{then-same_key_at, else-same_key_at, After-same_optional_key_at}
use Rattle.freeze.proofs.same_authorities.Goals as goal

pub returns-then-same_optional_key_at : goal.returns-then-same_optional_key_at
returns-then-same_optional_key_at c =
    let a = c.args.a.now in
    let b = c.args.b.now in
    let bytes-a : Bytes a = λ i. omega (arith, c.type_inv.a i) in
    let bytes-b : Bytes b = λ i. omega (arith, c.type_inv.b i) in
    let first : c.if-same_key_at.value ≡ (same_key_at 32 a b && same_optional_key_at 72 76 a b) = elim c.if-same_key_at.branch [
      | then-same_key_at w ↦ w.value-is ∙ w.same_optional_key_at.ensures ∙ sym (rw (sym c.same_key_at.ensures ∙ w.if-same_key_at.true))
      | else-same_key_at w ↦ w.value-is ∙ w.if-same_key_at.false ∙ sym (rw (sym c.same_key_at.ensures ∙ w.if-same_key_at.false))
    ] in
    c.same_optional_key_at-then-same_optional_key_at.ensures
    ∙ sym (authorities_as_keys a b bytes-a bytes-b ∙ rw (sym first ∙ c.if-same_optional_key_at.true))

pub returns-else-same_optional_key_at : goal.returns-else-same_optional_key_at
returns-else-same_optional_key_at c =
    let a = c.args.a.now in
    let b = c.args.b.now in
    let bytes-a : Bytes a = λ i. omega (arith, c.type_inv.a i) in
    let bytes-b : Bytes b = λ i. omega (arith, c.type_inv.b i) in
    let first : c.if-same_key_at.value ≡ (same_key_at 32 a b && same_optional_key_at 72 76 a b) = elim c.if-same_key_at.branch [
      | then-same_key_at w ↦ w.value-is ∙ w.same_optional_key_at.ensures ∙ sym (rw (sym c.same_key_at.ensures ∙ w.if-same_key_at.true))
      | else-same_key_at w ↦ w.value-is ∙ w.if-same_key_at.false ∙ sym (rw (sym c.same_key_at.ensures ∙ w.if-same_key_at.false))
    ] in
    let off = c.if-same_optional_key_at.false in
    off ∙ sym (authorities_as_keys a b bytes-a bytes-b ∙ rw (sym first ∙ off))
