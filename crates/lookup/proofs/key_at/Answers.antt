-- `lookup::key_at` meets its contract: a view that is there names the record.
-- Assumes nothing.
use mathlib.Core.Path.{sym, ap, ◌∙◌}
use lib.ListN.{length-map}
use Rattle.account.specs.declared.RecordView.{RecordView}
use Rattle.account.specs.Views.{record_at, records_in}
use Rattle.lookup.proofs.Lookups.{key_past, key_there}
use Rattle.lookup.proofs.key_at.Goals as goal

pub returns-in_default : goal.returns-in_default
unfolding records_in
returns-in_default c = let (_, _, _, past, _) = c.in_default.ensures.lookup in sym (key_past _ _ (simp length-map past))

pub returns : goal.returns
returns c =
    let (_, here, _, (inside, _), _) = c.in-Some.ensures.lookup in
    c.record_key.ensures
    ∙ ap (λ (v : RecordView). (record_at c.args.table.now v).key) here
    ∙ sym (key_there c.args.table.now c.args.records.now c.args.index _ inside)
