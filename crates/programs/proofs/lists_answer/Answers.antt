-- `programs::lists_answer` meets its contract: the whitelist first, then the blacklist.
-- Assumes nothing.
use mathlib.Core.Path.{sym, ◌∙◌}
use Rattle.programs.proofs.Lists.{lists_not_whitelisted, lists_blacklisted, lists_allow}
use Rattle.programs.proofs.lists_answer.Goals as goal

pub returns-then-not_whitelisted : goal.returns-then-not_whitelisted
returns-then-not_whitelisted c = sym (lists_not_whitelisted _ _ _ _ (sym c.not_whitelisted.ensures ∙ c.if-not_whitelisted.true))

pub returns-then-in_live_list : goal.returns-then-in_live_list
returns-then-in_live_list c =
    sym
    (lists_blacklisted _ _ _ _ (sym c.not_whitelisted.ensures ∙ c.if-not_whitelisted.false) (sym c.in_live_list.ensures ∙ c.if-in_live_list.true))

pub returns : goal.returns
returns c =
    sym (lists_allow _ _ _ _ (sym c.not_whitelisted.ensures ∙ c.if-not_whitelisted.false) (sym c.in_live_list.ensures ∙ c.if-in_live_list.false))
