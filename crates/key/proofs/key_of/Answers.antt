-- `key::key_of` meets its contract: a part of the length of a key is converted, and any other is the key of zeros.
-- Assumes nothing.
use Rattle.key.proofs.Laws.{key_converted}
use Rattle.key.proofs.key_of.Goals as goal

pub returns : goal.returns
returns c = key_converted c.args.part.now c.try_into.result c.unwrap_or.result c.try_into.ensures.1 c.unwrap_or.ensures
