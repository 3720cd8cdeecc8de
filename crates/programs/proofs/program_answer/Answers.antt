-- `programs::program_answer` meets its contract: an index in range first, then the lists.
-- Assumes nothing.
use mathlib.Core.Path.{sym, ◌∙◌}
use lib.ListN.{length-map}
use Rattle.account.specs.Views.{records_in}
use Rattle.lookup.proofs.Lookups.{key_there}
use Rattle.programs.proofs.Lists.{program_out_of_range, program_in_range}
use Rattle.programs.proofs.program_answer.Goals as goal

pub returns-in_default : goal.returns-in_default
unfolding records_in
returns-in_default c = let (_, _, _, past, _) = c.in_default.ensures.lookup in sym (program_out_of_range _ _ _ _ (simp length-map past))

pub returns : goal.returns
unfolding records_in
returns c =
    let table = c.args.table in
    let (_, here, _, (inside, _), _) = c.in-Some.ensures.lookup in
    c.lists_answer.ensures
    ∙ rw (c.record_key.ensures, here, ← (key_there table.bytes.now table.records.now c.args.program c.in-Some.record.now inside))
    (sym (program_in_range _ _ _ _ (simp length-map inside)))
