-- `encoding::is_encodable` meets its contract: the tests are the definition's, in its order.
-- Assumes nothing.
use native.Mathlib.Omega.{arith}
use Rattle.std.proofs.lemmas.Bool.Decides.{nat_tests}
use Rattle.compact.specs.Compact.{most_accounts, most_payload}
use Rattle.encoding.specs.Encoding.{encodable_one}
use Rattle.encoding.proofs.is_encodable.Goals as goal

pub returns-then-within : goal.returns-then-within
unfolding encodable_one most_accounts most_payload
returns-then-within c = grind (arith, nat_tests)

pub returns-else-within : goal.returns-else-within
unfolding encodable_one most_accounts most_payload
returns-else-within c = grind (arith, nat_tests)
