-- `creation::all_keep` meets its contract: it asks action by action, as the definition does.
-- Assumes nothing.
use mathlib.Core.Path.{◌≡◌, refl}
use mathlib.Core.Bool.{true, false}
use mathlib.Core.List.{List}
use borrow.Author.Tests.{tests}
use Rattle.std.proofs.Common.{rules}
use Rattle.std.proofs.lemmas.Iterator.{cases_from_all, YieldsList-from_slice}
use Rattle.action.specs.declared.ActionView.{ActionView}
use Rattle.action.specs.Views.{action_at}
use Rattle.row.specs.Views.{actions_in}
use Rattle.answer.proofs.Chains.{all_down}
use Rattle.creation.specs.Creation.{keeps, all_keep}
use Rattle.creation.proofs.all_keep.Goals as goal

pub returns : goal.returns
unfolding all_keep actions_in
returns c =
    let s = c.args.region.now in
    let rule = c.args.rule in
    all_down (λ (v : ActionView). keeps rule (action_at s v)) (λ (l : List ActionView). all_keep rule (actions_in s l)) refl (λ v l. refl) c.args.views.now _
    (cases_from_all _ _ _ (λ v. keeps rule (action_at s v) ≡ true) (λ v. keeps rule (action_at s v) ≡ false) c.all.ensures.ran (YieldsList-from_slice c.args.views.now cc)
    (λ x q k. search (rules, tests))
    (λ x q k. search (rules, tests)))
