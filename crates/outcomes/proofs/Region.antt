-- That each public function's contract leaves one outcome: actions and the action region.
-- Assumes nothing.
use mathlib.Core.Path.{refl}
use Rattle.action.proofs as action
use Rattle.action.specs.contracts as action-contracts
use Rattle.change.proofs as change
use Rattle.change.specs.contracts as change-contracts
use Rattle.region.proofs as region
use Rattle.region.specs.contracts as region-contracts
use Rattle.creation.proofs as creation
use Rattle.creation.specs.contracts as creation-contracts
use Rattle.mints.proofs as mints
use Rattle.mints.specs.contracts as mints-contracts
use Rattle.outcomes.specs.Outcome.{OneOutcome, OneOutcomeOfSlice}
use Rattle.outcomes.proofs.Laws.{both, one-outcome}

pub action-fields-is_token : OneOutcome action-contracts.fields.is_token.ended action.fields.is_token.Reads.Pre action.fields.is_token.Reads.Post
action-fields-is_token _ _ = (tt, λ _ _ p q. both (one-outcome p q) refl)

pub action-fields-is_recurring : OneOutcome action-contracts.fields.is_recurring.ended action.fields.is_recurring.Reads.Pre action.fields.is_recurring.Reads.Post
action-fields-is_recurring _ _ = (tt, λ _ _ p q. both (one-outcome p q) refl)

pub action-fields-is_expired : OneOutcome action-contracts.fields.is_expired.ended action.fields.is_expired.Reads.Pre action.fields.is_expired.Reads.Post
action-fields-is_expired _ _ = (tt, λ _ _ p q. both (one-outcome p q) refl)

pub action-fields-data_of : OneOutcomeOfSlice action-contracts.fields.data_of.ended action.fields.data_of.Reads.Pre action.fields.data_of.Reads.Post
action-fields-data_of _ _ = (tt, λ _ _ p q. both (one-outcome p q) refl)

pub action-fields-key_of : OneOutcomeOfSlice action-contracts.fields.key_of.ended action.fields.key_of.Reads.Pre action.fields.key_of.Reads.Post
action-fields-key_of _ _ = (tt, λ _ _ p q. both (one-outcome p q) refl)

pub action-fields-amounts_of : OneOutcomeOfSlice action-contracts.fields.amounts_of.ended action.fields.amounts_of.Reads.Pre action.fields.amounts_of.Reads.Post
action-fields-amounts_of _ _ = (tt, λ _ _ p q. both (one-outcome p q) refl)

pub action-fields-mint_length : OneOutcome action-contracts.fields.mint_length.ended action.fields.mint_length.Reads.Pre action.fields.mint_length.Reads.Post
action-fields-mint_length _ _ = (tt, λ _ _ p q. both (one-outcome p q) refl)

pub action-fields-remaining : OneOutcome action-contracts.fields.remaining.ended action.fields.remaining.Reads.Pre action.fields.remaining.Reads.Post
action-fields-remaining _ _ = (tt, λ _ _ p q. both (one-outcome p q) refl)

pub action-fields-limit : OneOutcome action-contracts.fields.limit.ended action.fields.limit.Reads.Pre action.fields.limit.Reads.Post
action-fields-limit _ _ = (tt, λ _ _ p q. both (one-outcome p q) refl)

pub action-fields-spent : OneOutcome action-contracts.fields.spent.ended action.fields.spent.Reads.Pre action.fields.spent.Reads.Post
action-fields-spent _ _ = (tt, λ _ _ p q. both (one-outcome p q) refl)

pub action-fields-window : OneOutcome action-contracts.fields.window.ended action.fields.window.Reads.Pre action.fields.window.Reads.Post
action-fields-window _ _ = (tt, λ _ _ p q. both (one-outcome p q) refl)

pub action-fields-last_reset : OneOutcome action-contracts.fields.last_reset.ended action.fields.last_reset.Reads.Pre action.fields.last_reset.Reads.Post
action-fields-last_reset _ _ = (tt, λ _ _ p q. both (one-outcome p q) refl)

pub action-expected_data_size : OneOutcome action-contracts.expected_data_size.ended action.expected_data_size.Reads.Pre action.expected_data_size.Reads.Post
action-expected_data_size _ _ = (tt, λ _ _ p q. both (one-outcome p q) refl)

pub change-apply_change : OneOutcome change-contracts.apply_change.ended change.apply_change.Reads.Pre change.apply_change.Reads.Post
change-apply_change _ _ = (tt, λ _ _ p q. both refl (both (one-outcome p q) refl))

pub region-cut_into : OneOutcome region-contracts.cut_into.ended region.cut_into.Reads.Pre region.cut_into.Reads.Post
region-cut_into _ _ = (tt, λ _ _ p q. both (one-outcome p.0 q.0) (both refl (both (one-outcome p.1 q.1) refl)))

pub region-parse_actions : OneOutcome region-contracts.parse_actions.ended region.parse_actions.Reads.Pre region.parse_actions.Reads.Post
region-parse_actions _ _ = (tt, λ _ _ p q. both (one-outcome p q) refl)

pub creation-how_often : OneOutcome creation-contracts.how_often.ended creation.how_often.Reads.Pre creation.how_often.Reads.Post
creation-how_often _ _ = (tt, λ _ _ p q. both (one-outcome p q) refl)

pub creation-validate_actions_buffer : OneOutcome creation-contracts.validate_actions_buffer.ended creation.validate_actions_buffer.Reads.Pre creation.validate_actions_buffer.Reads.Post
creation-validate_actions_buffer _ _ = (tt, λ _ _ p q. both (one-outcome p q) refl)

pub creation-stored_answer : OneOutcome creation-contracts.stored_answer.ended creation.stored_answer.Reads.Pre creation.stored_answer.Reads.Post
creation-stored_answer _ _ = (tt, λ _ _ p q. both (one-outcome p q) refl)

pub mints-listed_mints : OneOutcome mints-contracts.listed_mints.ended mints.listed_mints.Reads.Pre mints.listed_mints.Reads.Post
mints-listed_mints _ _ = (tt, λ _ _ p q. both (one-outcome p q) refl)
