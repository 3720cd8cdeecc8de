-- That each public function's contract leaves one outcome: the table of numbers, little-endian numbers, parts and keys.
-- Assumes nothing.
use mathlib.Core.Path.{refl}
use Rattle.answer.proofs as answer
use Rattle.answer.specs.contracts as answer-contracts
use Rattle.number.proofs as number
use Rattle.number.specs.contracts as number-contracts
use Rattle.part.proofs as part
use Rattle.part.specs.contracts as part-contracts
use Rattle.key.proofs as key
use Rattle.key.specs.contracts as key-contracts
use Rattle.keys.proofs as keys
use Rattle.keys.specs.contracts as keys-contracts
use Rattle.outcomes.specs.Outcome.{OneOutcome, OneOutcomeOfSlice}
use Rattle.outcomes.proofs.Laws.{both, one-outcome}

pub answer-number_of : OneOutcome answer-contracts.number_of.ended answer.number_of.Reads.Pre answer.number_of.Reads.Post
answer-number_of _ _ = (tt, λ _ _ p q. both (one-outcome p q) refl)

pub number-read_u16 : OneOutcome number-contracts.read_u16.ended number.read_u16.Reads.Pre number.read_u16.Reads.Post
number-read_u16 _ _ = (tt, λ _ _ p q. both (one-outcome p q) refl)

pub number-read_u32 : OneOutcome number-contracts.read_u32.ended number.read_u32.Reads.Pre number.read_u32.Reads.Post
number-read_u32 _ _ = (tt, λ _ _ p q. both (one-outcome p q) refl)

pub number-read_u64 : OneOutcome number-contracts.read_u64.ended number.read_u64.Reads.Pre number.read_u64.Reads.Post
number-read_u64 _ _ = (tt, λ _ _ p q. both (one-outcome p q) refl)

pub number-write_u64 : OneOutcome number-contracts.write_u64.ended number.write_u64.Reads.Pre number.write_u64.Reads.Post
number-write_u64 _ _ = (tt, λ _ _ p q. both (one-outcome p.0 q.0) (both (one-outcome p.1 q.1) refl))

pub number-capped_sum : OneOutcome number-contracts.capped_sum.ended number.capped_sum.Reads.Pre number.capped_sum.Reads.Post
number-capped_sum _ _ = (tt, λ _ _ p q. both (one-outcome p q) refl)

pub number-floored_difference : OneOutcome number-contracts.floored_difference.ended number.floored_difference.Reads.Pre number.floored_difference.Reads.Post
number-floored_difference _ _ = (tt, λ _ _ p q. both (one-outcome p q) refl)

pub part-part_at : OneOutcomeOfSlice part-contracts.part_at.ended part.part_at.Reads.Pre part.part_at.Reads.Post
part-part_at _ _ = (tt, λ _ _ p q. both (one-outcome p q) refl)

pub key-same_key : OneOutcome key-contracts.same_key.ended key.same_key.Reads.Pre key.same_key.Reads.Post
key-same_key _ _ = (tt, λ _ _ p q. both (one-outcome p q) refl)

pub key-key_of : OneOutcome key-contracts.key_of.ended key.key_of.Reads.Pre key.key_of.Reads.Post
key-key_of _ _ = (tt, λ _ _ p q. both (one-outcome p q) refl)

pub key-Key-is : OneOutcome key-contracts.Key.is.ended key.Key.is.Reads.Pre key.Key.is.Reads.Post
key-Key-is _ _ = (tt, λ _ _ p q. both (one-outcome p q) refl)

pub keys-Keys-none : OneOutcome keys-contracts.Keys.none.ended keys.Keys.none.Reads.Pre keys.Keys.none.Reads.Post
keys-Keys-none _ _ = (tt, λ _ _ p q. both (one-outcome p q) refl)

pub keys-Keys-as_slice : OneOutcomeOfSlice keys-contracts.Keys.as_slice.ended keys.Keys.as_slice.Reads.Pre keys.Keys.as_slice.Reads.Post
keys-Keys-as_slice _ _ = (tt, λ _ _ p q. both (one-outcome p.0 q.0) refl)

pub keys-Keys-position : OneOutcome keys-contracts.Keys.position.ended keys.Keys.position.Reads.Pre keys.Keys.position.Reads.Post
keys-Keys-position _ _ = (tt, λ _ _ p q. both (one-outcome p q) refl)

pub keys-Keys-holds : OneOutcome keys-contracts.Keys.holds.ended keys.Keys.holds.Reads.Pre keys.Keys.holds.Reads.Post
keys-Keys-holds _ _ = (tt, λ _ _ p q. both (one-outcome p q) refl)

pub keys-Keys-push : OneOutcome keys-contracts.Keys.push.ended keys.Keys.push.Reads.Pre keys.Keys.push.Reads.Post
keys-Keys-push _ _ = (tt, λ _ _ p q. both refl (both (one-outcome p q) refl))
