-- `lookup::resolve` meets its contract: a cut table's answer and count are those of the definition, and so is the test of the entry.
-- Assumes nothing.
use mathlib.Core.Path.{sym, ap, ◌∙◌}
use mathlib.Core.Bool.{true, false}
use Prim.Native.Nat.{ℕ}
use Rattle.std.proofs.lemmas.Result.{err_from_is_err_and}
use Rattle.lookup.specs.Indexes.{resolvable}
use Rattle.lookup.proofs.Lookups.{resolve_malformed, resolve_sound}
use Rattle.lookup.proofs.resolve.Goals as goal

pub returns-in_err-views : goal.returns-in_err-views
returns-in_err-views c =
    let p = err_from_is_err_and c.from_residual.result c.from_residual.ensures.1 in
    rw (p.1, p.2, resolve_malformed _ _ _ _ (sym c.cut_places.ensures ∙ c.in_err-views.was))

pub returns-then-not-is_resolvable : goal.returns-then-not-is_resolvable
returns-then-not-is_resolvable c = sym (resolve_sound _ _ _ _ (sym c.cut_places.ensures ∙ c.in_ok-views.was) false (ap (λ (n : ℕ). resolvable n c.args.source.now c.args.entry) (sym c.len.ensures.value) ∙ sym c.is_resolvable.ensures ∙ c.if-not-is_resolvable.true))

pub returns : goal.returns
returns c = sym (resolve_sound _ _ _ _ (sym c.cut_places.ensures ∙ c.in_ok-views.was) true (ap (λ (n : ℕ). resolvable n c.args.source.now c.args.entry) (sym c.len.ensures.value) ∙ sym c.is_resolvable.ensures ∙ c.if-not-is_resolvable.false))
