-- Each named record on either side of the freeze, by computation.
-- Assumes nothing.
use mathlib.Core.Path.{◌≡◌, refl}
use mathlib.Core.Bool.{not}
use mathlib.Core.List.{[], ◌∷◌, map}
use lib.ListN.{replicate}
use Rattle.part.specs.Part.{part_at}
use Rattle.key.specs.Key.{same_key, same_bytes}
use Rattle.token.specs.Tokens.{is_token_account, is_counted}
use Rattle.token.specs.NamedRecords.{NamedRecord, named_records, plain_account, named_mint, named_vault, record_of}
use Rattle.freeze.specs.Freeze.{first_with_key, same_part, same_authorities, is_still, keeps_freeze}

-- before: what is a token account may not be gone afterwards, what is none may
pub gone_afterwards : map (λ (n : NamedRecord). keeps_freeze named_vault (same_key named_mint) [] (record_of (replicate 8 0) n)) named_records
    ≡ map (λ (n : NamedRecord). not n.is_account) named_records
unfolding named_records record_of keeps_freeze first_with_key is_still same_authorities same_part part_at is_counted is_token_account same_key same_bytes
gone_afterwards = refl

-- after: an account of 165 bytes may become what is a token account, with the same authorities, and nothing else
pub become_afterwards : map (λ (n : NamedRecord). keeps_freeze named_vault (same_key named_mint) (record_of (replicate 8 0) n ∷ []) (record_of (replicate 8 0) plain_account)) named_records
    ≡ map (λ (n : NamedRecord). n.is_account) named_records
unfolding named_records record_of keeps_freeze first_with_key is_still same_authorities same_part part_at is_counted is_token_account same_key same_bytes
become_afterwards = refl
