-- `compact::parse_programs` meets its contract: the program index is kept of each entry.
-- Assumes nothing.
use Rattle.std.proofs.Common.{rules}
use Rattle.std.proofs.lemmas.Result.{err_from_is_err_and}
use Rattle.compact.specs.Views.{parsed_programs}
use Rattle.compact.proofs.Keeping.{programs_kept}
use Rattle.compact.proofs.parse_programs.Goals as goal

pub returns-in_err-programs : goal.returns-in_err-programs
unfolding parsed_programs
returns-in_err-programs c =
    let p = err_from_is_err_and c.from_residual.result c.from_residual.ensures.1 in
    rw (p.1, p.2, rw c.in_err-programs.was at c.parse.ensures)

pub returns : goal.returns
unfolding parsed_programs
returns c =
    let (p, e, kept, n) = rw c.in_ok-programs.was at c.parse.ensures in
    rw (e, ← (programs_kept _ (λ e k h. search rules) p.entries.items c.in_ok-programs.programs.items kept))
