-- That each public function's contract leaves one outcome: compact instructions.
-- Assumes nothing.
use mathlib.Core.Path.{refl}
use Rattle.compact.proofs as compact
use Rattle.compact.specs.contracts as compact-contracts
use Rattle.encoding.proofs as encoding
use Rattle.encoding.specs.contracts as encoding-contracts
use Rattle.outcomes.specs.Outcome.{OneOutcome, OneOutcomeOfSlice}
use Rattle.outcomes.proofs.Laws.{both, one-outcome}

pub compact-Entries-as_slice : OneOutcomeOfSlice compact-contracts.Entries.as_slice.ended compact.Entries.as_slice.Reads.Pre compact.Entries.as_slice.Reads.Post
compact-Entries-as_slice _ _ = (tt, λ _ _ p q. both (one-outcome p q) refl)

pub compact-parse_compact_instructions : OneOutcome compact-contracts.parse_compact_instructions.ended compact.parse_compact_instructions.Reads.Pre compact.parse_compact_instructions.Reads.Post
compact-parse_compact_instructions _ _ = (tt, λ _ _ p q. both (one-outcome p q) refl)

pub compact-parse_programs : OneOutcome compact-contracts.parse_programs.ended compact.parse_programs.Reads.Pre compact.parse_programs.Reads.Post
compact-parse_programs _ _ = (tt, λ _ _ p q. both (one-outcome p q) refl)

pub compact-within : OneOutcome compact-contracts.within.ended compact.within.Reads.Pre compact.within.Reads.Post
compact-within _ _ = (tt, λ _ _ p q. both (one-outcome p q) refl)

pub encoding-serialize_compact_instructions : OneOutcome encoding-contracts.serialize_compact_instructions.ended encoding.serialize_compact_instructions.Reads.Pre encoding.serialize_compact_instructions.Reads.Post
encoding-serialize_compact_instructions _ _ = (tt, λ _ _ p q. both (one-outcome p.0 q.0) (both refl (both refl (both (one-outcome p.1 q.1) refl))))
