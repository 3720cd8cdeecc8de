-- `keys::Keys::holds` meets its contract: the search that `any` makes is `is_among`.
-- Assumes nothing.
use Rattle.std.proofs.Common.{rules, take, ◌∙◌}
use Rattle.std.proofs.lemmas.Iterator.{YieldsList-from_slice}
use Rattle.std.proofs.lemmas.Iterator.Search.{any_from_yields_List}
use Rattle.key.specs.Key.{same_key}
use Rattle.key.specs.declared.Key.{Key}
use Rattle.keys.proofs.Laws.{any_held}
use Rattle.keys.proofs.Keys.holds.Goals as goal

pub returns : goal.returns
returns c =
    let keys = c.args.self.now in
    any_from_yields_List (λ (k : Key). same_key k.bytes c.args.key.now) _ _ _ c.any.ensures.ran
    (YieldsList-from_slice (take keys.count keys.list) cc) (λ x b q h. grind rules)
    ∙ any_held keys c.args.key.now
