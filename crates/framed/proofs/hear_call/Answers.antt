-- `framed::hear_call` meets its contract, by what the bytes begin with.
-- Assumes nothing.
use mathlib.Core.Path.{sym, ◌∙◌}
use Rattle.framed.proofs.Laws.{call_judged, call_too_long, call_waits, region_judged, region_too_long, region_waits}
use Rattle.framed.proofs.hear_call.Goals as goal

pub returns-in-Whole : goal.returns-in-Whole
returns-in-Whole c =
    let front = sym c.read_call.ensures ∙ c.in-Whole.is in
    let judged = c.judge_call.ensures in
    record { value = rw judged.value (sym (call_judged _ _ _ front)); region_after = judged.region_after ∙ sym (region_judged _ _ _ front) }

pub returns-in-Long : goal.returns-in-Long
returns-in-Long c =
    let front = sym c.read_call.ensures ∙ c.in-Long.is in
    record { value = sym (call_too_long _ _ front); region_after = sym (region_too_long _ _ front) }

pub returns-in-Short : goal.returns-in-Short
returns-in-Short c =
    let front = sym c.read_call.ensures ∙ c.in-Short.is in
    record { value = sym (call_waits _ _ front); region_after = sym (region_waits _ _ front) }
