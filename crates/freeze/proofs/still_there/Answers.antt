-- `freeze::still_there` meets its contract: what `find` answers names the first record with the key.
-- Assumes nothing.
use Rattle.std.proofs.Common.{rules, ◌≡◌, sym, ap, ◌∙◌}
use Rattle.std.specs.Prelude.{Some, None}
use Rattle.std.specs.List.{find}
use Rattle.std.proofs.lemmas.Iterator.{YieldsList-from_slice}
use Rattle.std.proofs.lemmas.Iterator.Search.{find_from_yields_List}
use Rattle.key.specs.Key.{same_key}
use Rattle.account.specs.declared.RecordView.{RecordView}
use Rattle.account.specs.Views.{record_at}
use Rattle.freeze.proofs.Freezing.{still_of, found_still}
use Rattle.freeze.proofs.still_there.Goals as goal

pub returns-in-Some : goal.returns-in-Some
returns-in-Some c =
    let table = c.args.table in
    let key = c.args.key.now in
    let p = c.args.payload.now in
    let first = find_from_yields_List (λ (v : RecordView). same_key (record_at table.bytes.now v).key key) _ _ _ c.find.ensures.ran
    (YieldsList-from_slice table.records.now (search rules)) (λ x b q h. search rules) in
    let this : Some c.in-Some.view.now ≡ find (λ (v : RecordView). same_key (record_at table.bytes.now v).key key) table.records.now = rw c.in-Some.is at first in
    c.is_still.ensures ∙ ap (still_of p table.bytes.now) this ∙ sym (found_still p key table.bytes.now table.records.now)

pub returns-in-None : goal.returns-in-None
returns-in-None c =
    let table = c.args.table in
    let key = c.args.key.now in
    let p = c.args.payload.now in
    let first = find_from_yields_List (λ (v : RecordView). same_key (record_at table.bytes.now v).key key) _ _ _ c.find.ensures.ran
    (YieldsList-from_slice table.records.now (search rules)) (λ x b q h. search rules) in
    let this : None ≡ find (λ (v : RecordView). same_key (record_at table.bytes.now v).key key) table.records.now = rw c.in-None.is at first in
    ap (still_of p table.bytes.now) this ∙ sym (found_still p key table.bytes.now table.records.now)
