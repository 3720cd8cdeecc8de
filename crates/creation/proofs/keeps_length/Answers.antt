-- `creation::keeps_length` meets its contract: the data's length is compared with its type's.
-- Assumes nothing.
use Rattle.creation.proofs.Keeping.{length_kept}
use Rattle.creation.proofs.keeps_length.Goals as goal

pub returns : goal.returns
returns c = length_kept _ _ _ _ c.data_of-payload.ensures c.expected_data_size.ensures
