-- `compact::within` meets its contract: a range that starts within the source has what is left after its start.
-- Assumes nothing.
use mathlib.Core.Path.{sym, ◌∙◌}
use borrow.Author.Tests.{lt-leb}
use Rattle.compact.proofs.Ranges.{within_past, within-left}
use Rattle.compact.proofs.within.Goals as goal

pub returns-then-source-range : goal.returns-then-source-range
returns-then-source-range c = within-left _ _ c.if-source-range.true

pub returns-else-source-range : goal.returns-else-source-range
returns-else-source-range c = lt-leb _ _ c.if-source-range.false ∙ sym (within_past c.args.source.now c.args.range c.if-source-range.false)
