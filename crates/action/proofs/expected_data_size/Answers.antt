-- `action::expected_data_size` meets its contract: the table's rule is one test over its twelve entries.
-- Assumes nothing.
use Prim.Native.Nat.{ℕ}
use mathlib.Core.List.{List, [], ◌∷◌}
use mathlib.Core.Path.{refl, sym}
use Rattle.action.specs.Action.{data_length, size_among}
use Rattle.action.proofs.Table.{entry_is}
use Rattle.action.proofs.Lengths.{unknown_code}
use Rattle.action.proofs.expected_data_size.Goals as goal

lengths : List ℕ
lengths = 0 ∷ 8 ∷ 32 ∷ 8 ∷ 40 ∷ 64 ∷ 40 ∷ 0 ∷ 0 ∷ 0 ∷ 32 ∷ 32 ∷ []

pub returns-then-i-lt12 : goal.returns-then-i-lt12
unfolding data_length size_among lengths
returns-then-i-lt12 c = entry_is data_length lengths refl c.args.code c.if-i-lt12.true

pub returns-else-i-lt12 : goal.returns-else-i-lt12
returns-else-i-lt12 c = sym (unknown_code _ c.if-i-lt12.false)
