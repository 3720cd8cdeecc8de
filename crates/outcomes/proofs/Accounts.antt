-- That each public function's contract leaves one outcome: accounts, their table, tokens and balances.
-- Assumes nothing.
use mathlib.Core.Path.{refl}
use Rattle.account.proofs as account
use Rattle.account.specs.contracts as account-contracts
use Rattle.table.proofs as table
use Rattle.table.specs.contracts as table-contracts
use Rattle.lookup.proofs as lookup
use Rattle.lookup.specs.contracts as lookup-contracts
use Rattle.token.proofs as token
use Rattle.token.specs.contracts as token-contracts
use Rattle.balance.proofs as balance
use Rattle.balance.specs.contracts as balance-contracts
use Rattle.outcomes.specs.Outcome.{OneOutcome, OneOutcomeOfSlice}
use Rattle.outcomes.proofs.Laws.{both, one-outcome}

pub account-record_key : OneOutcomeOfSlice account-contracts.record_key.ended account.record_key.Reads.Pre account.record_key.Reads.Post
account-record_key _ _ = (tt, λ _ _ p q. both (one-outcome p q) refl)

pub account-record_owner : OneOutcomeOfSlice account-contracts.record_owner.ended account.record_owner.Reads.Pre account.record_owner.Reads.Post
account-record_owner _ _ = (tt, λ _ _ p q. both (one-outcome p q) refl)

pub account-record_payload : OneOutcomeOfSlice account-contracts.record_payload.ended account.record_payload.Reads.Pre account.record_payload.Reads.Post
account-record_payload _ _ = (tt, λ _ _ p q. both (one-outcome p q) refl)

pub table-cut_into : OneOutcome table-contracts.cut_into.ended table.cut_into.Reads.Pre table.cut_into.Reads.Post
table-cut_into _ _ = (tt, λ _ _ p q. both (one-outcome p.0 q.0) (both refl (both (one-outcome p.1 q.1) refl)))

pub table-cut_places : OneOutcome table-contracts.cut_places.ended table.cut_places.Reads.Pre table.cut_places.Reads.Post
table-cut_places _ _ = (tt, λ _ _ p q. both (one-outcome p q) refl)

pub lookup-key_at : OneOutcomeOfSlice lookup-contracts.key_at.ended lookup.key_at.Reads.Pre lookup.key_at.Reads.Post
lookup-key_at _ _ = (tt, λ _ _ p q. both (one-outcome p q) refl)

pub lookup-lookup : OneOutcomeOfSlice lookup-contracts.lookup.ended lookup.lookup.Reads.Pre lookup.lookup.Reads.Post
lookup-lookup _ _ = (tt, λ _ _ p q. both (one-outcome p q) refl)

pub lookup-resolve : OneOutcome lookup-contracts.resolve.ended lookup.resolve.Reads.Pre lookup.resolve.Reads.Post
lookup-resolve _ _ = (tt, λ _ _ p q. both (one-outcome p q) refl)

pub token-is_token_account : OneOutcome token-contracts.is_token_account.ended token.is_token_account.Reads.Pre token.is_token_account.Reads.Post
token-is_token_account _ _ = (tt, λ _ _ p q. both (one-outcome p q) refl)

pub token-mint_of : OneOutcomeOfSlice token-contracts.mint_of.ended token.mint_of.Reads.Pre token.mint_of.Reads.Post
token-mint_of _ _ = (tt, λ _ _ p q. both (one-outcome p q) refl)

pub token-is_held_by : OneOutcome token-contracts.is_held_by.ended token.is_held_by.Reads.Pre token.is_held_by.Reads.Post
token-is_held_by _ _ = (tt, λ _ _ p q. both (one-outcome p q) refl)

pub token-amount_of : OneOutcome token-contracts.amount_of.ended token.amount_of.Reads.Pre token.amount_of.Reads.Post
token-amount_of _ _ = (tt, λ _ _ p q. both (one-outcome p q) refl)

pub balance-balance : OneOutcome balance-contracts.balance.ended balance.balance.Reads.Pre balance.balance.Reads.Post
balance-balance _ _ = (tt, λ _ _ p q. both (one-outcome p q) refl)

pub balance-balances : OneOutcome balance-contracts.balances.ended balance.balances.Reads.Pre balance.balances.Reads.Post
balance-balances _ _ = (tt, λ _ _ p q. both (one-outcome p q) refl)
