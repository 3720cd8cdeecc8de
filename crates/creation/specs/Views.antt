-- The values that the code answers with between steps.
-- Assumes nothing.
use Rattle.std.specs.Prelude.{not, ◌&&◌, List}
use Rattle.answer.specs.declared.Refusal.TheVariants.{BadRegion}
use Rattle.answer.specs.Numbers.{Answer, accepts, refuse_if}
use Rattle.action.specs.Action.{Action}
use Rattle.creation.specs.Creation.{in_stored_form}

-- what a judged call answers to actions, where cutting them has an answer
unfoldable pub stored_answer : Answer → List Action → Answer
unfolding in_stored_form
stored_answer cutting l = refuse_if (not (accepts cutting && in_stored_form l)) BadRegion
