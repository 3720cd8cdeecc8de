-- `keys::Keys::position` meets its contract: the search that `position` makes is the one among the keys.
-- Assumes nothing.
use Rattle.std.proofs.Common.{rules, take, ◌∙◌}
use Rattle.std.proofs.lemmas.Iterator.{YieldsList-from_slice}
use Rattle.std.proofs.lemmas.Iterator.Search.{position_from_yields_List}
use Rattle.key.specs.Key.{same_key}
use Rattle.key.specs.declared.Key.{Key}
use Rattle.keys.proofs.Laws.{place_held}
use Rattle.keys.proofs.Keys.position.Goals as goal

pub returns : goal.returns
returns c =
    let keys = c.args.self.now in
    position_from_yields_List (λ (k : Key). same_key k.bytes c.args.key.now) _ _ _ c.position.ensures.ran
    (YieldsList-from_slice (take keys.count keys.list) cc) (λ x b q h. grind rules)
    ∙ place_held keys c.args.key.now
