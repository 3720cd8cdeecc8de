-- `keys::Keys::none` meets its contract, by computation.
-- Assumes nothing.
use mathlib.Core.Path.{refl}
use Rattle.key.specs.Views.{zero_key}
use Rattle.keys.specs.Views.{keys_of}
use Rattle.keys.proofs.Keys.none.Goals as goal

pub returns : goal.returns
unfolding keys_of zero_key
returns c = refl
