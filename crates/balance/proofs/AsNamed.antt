-- The sum over one of each named record, by computation.
-- Assumes nothing.
use Prim.Native.Nat.{◌+◌}
use mathlib.Core.Path.{◌≡◌, refl}
use Rattle.number.specs.Number.{number, bytes_of, number_at, highest}
use Rattle.key.specs.Key.{same_key, same_bytes}
use Rattle.token.specs.Tokens.{is_token_account, is_counted}
use Rattle.token.specs.NamedRecords.{named_records, named_mint, named_vault, record_of, each_twice}
use Rattle.balance.specs.Balance.{share, holdings, balance}

-- the second, the sixth, the ninth, the eleventh and the thirteenth count, each with twice what the one before it holds
pub one_of_each : balance named_vault named_mint (each_twice 1 named_records) ≡ 2 + 32 + 256 + 1024 + 4096
unfolding each_twice named_records record_of balance holdings share is_counted is_token_account same_key same_bytes number bytes_of number_at highest
one_of_each = refl
