-- `creation::mint_again` meets its contract: it asks action by action, as the definition does.
-- Assumes nothing.
use mathlib.Core.Path.{◌≡◌, refl}
use mathlib.Core.Bool.{true, false, ◌&&◌}
use mathlib.Core.List.{List}
use borrow.Author.Tests.{tests}
use lib.Dec.{eqb}
use Rattle.std.proofs.Common.{rules}
use Rattle.std.proofs.lemmas.Iterator.{cases_from_any, YieldsList-from_slice}
use Rattle.key.specs.Key.{same_key}
use Rattle.action.specs.declared.ActionView.{ActionView}
use Rattle.action.specs.Fields.{key_of}
use Rattle.action.specs.Views.{action_at}
use Rattle.row.specs.Views.{actions_in}
use Rattle.answer.proofs.Chains.{any_down}
use Rattle.creation.specs.Creation.{mint_again}
use Rattle.creation.proofs.mint_again.Goals as goal

pub returns : goal.returns
unfolding mint_again actions_in action_at
returns c =
    let s = c.args.region.now in
    let v = c.args.view in
    any_down (λ (w : ActionView). eqb w.kind v.kind && same_key (key_of (action_at s w)) (key_of (action_at s v))) (λ (l : List ActionView). mint_again (action_at s v) (actions_in s l)) refl (λ w l. refl) c.args.views.now _
    (cases_from_any _ _ _ (λ w. (eqb w.kind v.kind && same_key (key_of (action_at s w)) (key_of (action_at s v))) ≡ true) (λ w. (eqb w.kind v.kind && same_key (key_of (action_at s w)) (key_of (action_at s v))) ≡ false) c.any.ensures.ran (YieldsList-from_slice c.args.views.now cc)
    (λ x q k. search (rules, tests))
    (λ x q k. search (rules, tests)))
