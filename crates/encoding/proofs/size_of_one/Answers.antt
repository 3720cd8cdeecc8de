-- `encoding::size_of_one` meets its contract: an entry that keeps the limits has its ranges' lengths.
-- Assumes nothing.
use mathlib.Core.Path.{sym, ◌∙◌}
use native.Mathlib.Omega.{arith}
use Rattle.compact.specs.Compact.{most_accounts, most_payload}
use Rattle.encoding.specs.Views.{size_if}
use Rattle.encoding.proofs.Writing.{keeps, length_kept}
use Rattle.encoding.proofs.size_of_one.Goals as goal

pub returns-then-not-is_encodable : goal.returns-then-not-is_encodable
unfolding size_if
returns-then-not-is_encodable c = rw (← c.is_encodable.ensures, c.if-not-is_encodable.true)

pub overflow_add-result : goal.overflow_add-result
unfolding most_accounts most_payload
overflow_add-result c =
    let k = keeps c.args.source.now c.args.entry (sym c.is_encodable.ensures ∙ c.if-not-is_encodable.false) in omega (arith, k.few, k.short)

pub overflow_add-result-2 : goal.overflow_add-result-2
unfolding most_accounts most_payload
overflow_add-result-2 c =
    let k = keeps c.args.source.now c.args.entry (sym c.is_encodable.ensures ∙ c.if-not-is_encodable.false) in omega (arith, k.few, k.short)

pub returns : goal.returns
unfolding size_if
returns c =
    let kept = sym c.is_encodable.ensures ∙ c.if-not-is_encodable.false in
    rw (kept, length_kept c.args.source.now c.args.entry (keeps c.args.source.now c.args.entry kept))
