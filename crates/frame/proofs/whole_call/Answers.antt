-- `frame::whole_call` meets its contract: each number is read where the definition has it.
-- Assumes nothing.
use Rattle.frame.specs.Frame.{whole_call}
use Rattle.frame.proofs.whole_call.Goals as goal

pub returns : goal.returns
unfolding whole_call
returns c = cc
