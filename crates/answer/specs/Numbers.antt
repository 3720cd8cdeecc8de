-- The table of numbers: each answer is one of these.
-- Assumes nothing.
use Rattle.std.specs.Prelude.{ℕ, Bool, true, false, cond, List, [], ◌∷◌, leb}
use Rattle.answer.specs.declared.Refusal.{Refusal}
use Rattle.answer.specs.declared.Refusal.TheVariants.{ActionBufferInvalid, ActionWhitelistBlacklistConflict, InvalidInstructionData, ActionProgramNotWhitelisted, ActionProgramBlacklisted, ActionSolMaxPerTxExceeded, ActionSolLimitExceeded, ActionSolRecurringLimitExceeded, ActionTokenMaxPerTxExceeded, ActionTokenLimitExceeded, ActionTokenRecurringLimitExceeded, SessionTokenAuthorityChanged, BadTable, NoRoom, BadRegion, NotEncodable}
use Rattle.answer.specs.Refusable.{Refusable, Ok, Err}

abbrev pub accepted : ℕ
accepted = 0

-- creation rules
abbrev pub action_buffer_invalid : ℕ
action_buffer_invalid = 1

-- both kinds of list in one region
abbrev pub action_whitelist_blacklist_conflict : ℕ
action_whitelist_blacklist_conflict = 2

-- codec or index
abbrev pub invalid_instruction_data : ℕ
invalid_instruction_data = 3

-- program lists
abbrev pub action_program_not_whitelisted : ℕ
action_program_not_whitelisted = 4

abbrev pub action_program_blacklisted : ℕ
action_program_blacklisted = 5

-- SOL rules
abbrev pub action_sol_max_per_tx_exceeded : ℕ
action_sol_max_per_tx_exceeded = 6

abbrev pub action_sol_limit_exceeded : ℕ
action_sol_limit_exceeded = 7

abbrev pub action_sol_recurring_limit_exceeded : ℕ
action_sol_recurring_limit_exceeded = 8

-- token rules
abbrev pub action_token_max_per_tx_exceeded : ℕ
action_token_max_per_tx_exceeded = 9

abbrev pub action_token_limit_exceeded : ℕ
action_token_limit_exceeded = 10

abbrev pub action_token_recurring_limit_exceeded : ℕ
action_token_recurring_limit_exceeded = 11

-- authority freeze
abbrev pub session_token_authority_changed : ℕ
session_token_authority_changed = 12

-- account table malformed, or vault key not 32 bytes
abbrev pub bad_table : ℕ
bad_table = 13

-- output shorter than the encoding, and only then
abbrev pub no_room : ℕ
no_room = 14

-- region not in stored form at a judged call
abbrev pub bad_region : ℕ
bad_region = 15

-- the list breaks a writer's limit
abbrev pub not_encodable : ℕ
not_encodable = 16

-- the number of a refusal
abbrev pub refusal_number : Refusal → ℕ
refusal_number ActionBufferInvalid = action_buffer_invalid
refusal_number ActionWhitelistBlacklistConflict = action_whitelist_blacklist_conflict
refusal_number InvalidInstructionData = invalid_instruction_data
refusal_number ActionProgramNotWhitelisted = action_program_not_whitelisted
refusal_number ActionProgramBlacklisted = action_program_blacklisted
refusal_number ActionSolMaxPerTxExceeded = action_sol_max_per_tx_exceeded
refusal_number ActionSolLimitExceeded = action_sol_limit_exceeded
refusal_number ActionSolRecurringLimitExceeded = action_sol_recurring_limit_exceeded
refusal_number ActionTokenMaxPerTxExceeded = action_token_max_per_tx_exceeded
refusal_number ActionTokenLimitExceeded = action_token_limit_exceeded
refusal_number ActionTokenRecurringLimitExceeded = action_token_recurring_limit_exceeded
refusal_number SessionTokenAuthorityChanged = session_token_authority_changed
refusal_number BadTable = bad_table
refusal_number NoRoom = no_room
refusal_number BadRegion = bad_region
refusal_number NotEncodable = not_encodable

-- whether a number is in the table
unfoldable pub in_table : ℕ → Bool
in_table n = leb n not_encodable

-- what is asked is accepted, or refused
abbrev pub Answer : Type 0
Answer = Refusable (Unit {0})

-- the number of an answer
abbrev pub number_of : Answer → ℕ
number_of (Ok _) = accepted
number_of (Err r) = refusal_number r

-- whether an answer accepts
abbrev pub accepts : Answer → Bool
accepts (Ok _) = true
accepts (Err r) = false

-- the answer of what gives a value or refuses
abbrev pub answer_of : {A : Type 0} → Refusable A → Answer
answer_of (Ok a) = Ok tt
answer_of (Err r) = Err r

-- the first of some answers that refuses, or acceptance where none does
unfoldable pub first_refusal : List Answer → Answer
first_refusal [] = Ok tt
first_refusal (a ∷ rest) = elim (accepts a) [ true ↦ first_refusal rest | false ↦ a ]

-- a rule: a refusal where it is broken
abbrev pub refuse_if : Bool → Refusal → Answer
refuse_if broken r = cond broken (Err r) (Ok tt)
