-- `freeze::verify_token_authorities_unchanged` meets its contract: `all` asks each record before whether it keeps the freeze.
-- Assumes nothing.
use Rattle.std.proofs.Common.{rules, List, ℕ, ◌≡◌, [], sym, ap, ◌∙◌}
use Rattle.std.proofs.lemmas.Iterator.{YieldsList-from_slice}
use Rattle.std.proofs.lemmas.Iterator.Search.{all_from_yields_List}
use borrow.Author.Tests.{eq-eqb}
use Rattle.keys.specs.Views.{is_among, keys_in}
use Rattle.account.specs.declared.RecordView.{RecordView}
use Rattle.account.specs.Views.{record_at, table_records}
use Rattle.freeze.specs.Freeze.{keeps_freeze, all_frozen}
use Rattle.freeze.proofs.Freezing.{all_kept, frozen_none}
use Rattle.freeze.proofs.verify_token_authorities_unchanged.Goals as goal

pub returns-then-mints-eq0 : goal.returns-then-mints-eq0
returns-then-mints-eq0 c =
    let start = c.args in
    let none : keys_in start.mints.now ≡ [] = unfold keys_in in rw c.if-mints-eq0.true in
    eq-eqb _ _ c.if-mints-eq0.true
    ∙ sym
    (ap (λ (ks : List (List ℕ)). all_frozen start.vault.now (λ (m : List ℕ). is_among m ks) (table_records start.after) (table_records start.before)) none
    ∙ frozen_none start.vault.now (table_records start.after) (table_records start.before))

pub returns-else-mints-eq0 : goal.returns-else-mints-eq0
returns-else-mints-eq0 c =
    let start = c.args in
    let listed = λ (m : List ℕ). is_among m (keys_in start.mints.now) in
    let after = table_records start.after in
    let table = start.before in
    all_from_yields_List (λ (v : RecordView). keeps_freeze start.vault.now listed after (record_at table.bytes.now v)) _ _ _ c.all.ensures.ran
    (YieldsList-from_slice table.records.now cc) (λ x b q h. grind rules)
    ∙ all_kept start.vault.now listed after table.bytes.now table.records.now
