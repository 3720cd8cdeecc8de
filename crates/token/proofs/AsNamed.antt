-- The named records are token accounts as they are named, by computation.
-- Assumes nothing.
use mathlib.Core.Path.{◌≡◌, refl}
use mathlib.Core.List.{map}
use lib.ListN.{replicate}
use Rattle.key.specs.Key.{same_key, same_bytes}
use Rattle.token.specs.Tokens.{is_token_account}
use Rattle.token.specs.NamedRecords.{NamedRecord, named_records, record_of}

pub as_named : map (λ (n : NamedRecord). is_token_account (record_of (replicate 8 0) n)) named_records ≡ map (λ (n : NamedRecord). n.is_account) named_records
unfolding named_records record_of is_token_account same_key same_bytes
as_named = refl
