-- `programs::in_live_list` meets its contract: it asks action by action, as the definition does.
-- Assumes nothing.
use mathlib.Core.Path.{◌≡◌, refl}
use mathlib.Core.Bool.{Bool, true, false, not, ◌&&◌}
use mathlib.Core.List.{List}
use borrow.Author.Tests.{tests}
use lib.Dec.{eqb}
use Rattle.std.proofs.Common.{rules}
use Rattle.std.proofs.lemmas.Iterator.{cases_from_any, YieldsList-from_slice}
use Rattle.answer.proofs.Chains.{any_down}
use Rattle.key.specs.Key.{same_key}
use Rattle.action.specs.declared.ActionView.{ActionView}
use Rattle.action.specs.Action.{expired}
use Rattle.action.specs.Fields.{key_of}
use Rattle.action.specs.Views.{action_at}
use Rattle.row.specs.Views.{actions_in}
use Rattle.programs.specs.Programs.{in_live_list}
use Rattle.programs.proofs.in_live_list.Goals as goal

pub returns : goal.returns
unfolding in_live_list actions_in action_at
returns c =
    let s = c.args.region.now in
    let kind = c.args.kind in
    let slot = c.args.slot in
    let key = c.args.key.now in
    let has : ActionView → Bool = λ v. eqb v.kind kind && not (expired v.expires slot) && same_key (key_of (action_at s v)) key in
    any_down has (λ (l : List ActionView). in_live_list kind slot key (actions_in s l)) refl (λ v l. refl) c.args.views.now _
    (cases_from_any _ _ _ (λ v. has v ≡ true) (λ v. has v ≡ false) c.any.ensures.ran (YieldsList-from_slice c.args.views.now cc)
    (λ x q k. search (rules, tests))
    (λ x q k. search (rules, tests)))
