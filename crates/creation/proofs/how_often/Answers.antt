-- `creation::how_often` meets its contract: it counts the views of the type that is asked for.
-- Assumes nothing.
use mathlib.Core.Path.{◌∙◌}
use native.Mathlib.Omega.{arith}
use lib.Dec.{eqb}
use Rattle.std.proofs.Common.{rules}
use Rattle.std.proofs.lemmas.Bool.Decides.{nat_tests}
use Rattle.std.proofs.lemmas.Iterator.{YieldsList-from_slice}
use Rattle.std.proofs.lemmas.Iterator.Consumers.{YieldsList-from_filter, count_from_yields_List}
use Rattle.action.specs.declared.ActionView.{ActionView}
use Rattle.creation.proofs.Scanning.{often_counted}
use Rattle.creation.proofs.how_often.Goals as goal

pub returns : goal.returns
returns c =
    let views = c.args.views.now in
    let kind = c.args.kind in
    count_from_yields_List _ _ c.count.ensures.ran
    (YieldsList-from_filter _ (λ (v : ActionView). eqb v.kind kind) (YieldsList-from_slice views cc) c.filter.ensures.closure (λ x r q k. (search rules, grind (arith, nat_tests))))
    ∙ often_counted views kind
