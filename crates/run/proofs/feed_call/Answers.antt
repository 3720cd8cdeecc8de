-- `run::feed_call` meets its contract: what is at hand after the piece is heard, and the region is judged where it lies.
-- Assumes nothing.
use mathlib.Core.Path.{◌∙◌}
use Rattle.run.specs.declared.Stage.TheVariants.{Calls}
use Rattle.run.proofs.Gathering.{handed, heard_call, fed_call_lem, region_called, region_part, rest_stays}
use Rattle.run.proofs.feed_call.Goals as goal

pub returns : goal.returns
returns c =
    let args = c.args in
    let state = args.state in
    let opening = args.opening.now in
    let by = handed Calls state.got _ _ args.frame.now args.piece.now _ c.min-got.ensures c.gather-used.ensures.value c.gather-used.ensures.memory_after in
    let heard = c.hear_call-heard.ensures in
    let end = c.min-end.ensures in
    let part = region_part state opening _ end in
    record {
      value = c.hears.ensures ∙ heard_call state _ _ _ _ by.long _ heard.value ∙ fed_call_lem state _ _ opening by part;
      opening_after = rest_stays state opening _ end args.frame.now args.piece.now _ (heard.region_after ∙ region_called state _ _ opening by part);
      frame_after = by.memory_is;
    }
