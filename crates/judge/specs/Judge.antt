-- The judged call: nine steps, the first failure decides, and only an accepted call writes.
-- Assumes nothing.
use Rattle.std.specs.Prelude.{ℕ, not, cond, List, [], ◌∷◌, ◌++◌, map, eqb, length}
use Rattle.std.proofs.Math.Option.{Option, none, some}
use Rattle.answer.specs.declared.Refusal.TheVariants.{InvalidInstructionData, SessionTokenAuthorityChanged, BadTable}
use Rattle.answer.specs.Numbers.{Answer, accepts, first_refusal, refuse_if}
pub use Rattle.answer.specs.Numbers.{answer_of}
use Rattle.answer.specs.Refusable.{Refusable, Ok, Err}
use Rattle.key.specs.Key.{key_length}
use Rattle.action.specs.Action.{Action}
use Rattle.region.specs.Region.{glue}
use Rattle.creation.specs.Creation.{stored_actions}
use Rattle.mints.specs.Mints.{is_listed}
use Rattle.compact.specs.Compact.{Instruction, Read, decode}
use Rattle.account.specs.Record.{Record}
use Rattle.table.specs.Table.{cut_table, records_of}
use Rattle.limit.specs.Limit.{Charge, settled}
use Rattle.charge.specs.declared.Class.TheVariants.{Sol, Tokens}
use Rattle.charge.specs.Classes.{class_answer}
use Rattle.programs.specs.Programs.{programs_answer}
use Rattle.freeze.specs.Freeze.{all_frozen}
use Rattle.outflow.specs.Outflow.{decrease, amount_from}

-- what a judged call is given besides the region
pub record Call : Type 0 where
  pub before : List ℕ
  pub after : List ℕ
  pub instructions : List ℕ
  pub vault : List ℕ
  pub slot : ℕ
  pub lamports_before : ℕ
  pub lamports_after : ℕ
  pub gross : ℕ

-- the call of what a judged call is handed, in that order
abbrev pub call_of : List ℕ → List ℕ → List ℕ → List ℕ → ℕ → ℕ → ℕ → ℕ → Call
call_of before after instructions vault slot lamports_before lamports_after gross = record {
  before = before;
  after = after;
  instructions = instructions;
  vault = vault;
  slot = slot;
  lamports_before = lamports_before;
  lamports_after = lamports_after;
  gross = gross;
}

-- the records of the table before, and of the table after
unfoldable pub records_before : Call → List Record
records_before call = records_of (cut_table call.before)

unfoldable pub records_after : Call → List Record
records_after call = records_of (cut_table call.after)

-- the program indexes of a list that was read, none where there is no list
abbrev pub program_indexes : Option (Read (List Instruction)) → List ℕ
program_indexes none = []
program_indexes (some d) = map (λ (i : Instruction). i.program) d.value

-- the answer to reading the instructions
abbrev pub instructions_answer : Option (Read (List Instruction)) → Answer
instructions_answer none = Err InvalidInstructionData
instructions_answer (some d) = Ok tt

-- the actions of a region, none where it is not in stored form
abbrev pub actions_of : Refusable (List Action) → List Action
actions_of (Ok l) = l
actions_of (Err r) = []

-- the amount that an action's rule looks at: the decrease of its mint's balance; for SolMaxPerTx the gross outflow; else the decrease in lamports
unfoldable pub amount_for : Call → Action → ℕ
unfolding records_before records_after decrease amount_from
amount_for call a =
    amount_from call.vault (records_before call) (records_after call) (decrease call.lamports_before call.lamports_after) call.gross a

-- each action with its amount
unfoldable pub charged : Call → List Action → List Charge
unfolding amount_for
charged call l = map (λ (a : Action). record { act = a; amount = amount_for call a }) l

-- steps 1 to 3: the vault key, both tables, the instructions, the region
unfoldable pub soundness : List ℕ → Call → List Answer
soundness region call =
    refuse_if (not (eqb (length call.vault) key_length)) BadTable
    ∷ answer_of (cut_table call.before)
    ∷ answer_of (cut_table call.after)
    ∷ instructions_answer (decode call.instructions)
    ∷ answer_of (stored_actions region)
    ∷ []

-- steps 5 to 8: the programs, the freeze, the SOL rules, the token rules
unfoldable pub rules : Call → List Action → List Answer
unfolding charged records_before records_after
rules call l =
    programs_answer call.slot l (records_before call) (program_indexes (decode call.instructions))
    ∷ refuse_if (not (all_frozen call.vault (λ (mint : List ℕ). is_listed mint l) (records_after call) (records_before call))) SessionTokenAuthorityChanged
    ∷ class_answer Sol call.slot (charged call l)
    ∷ class_answer Tokens call.slot (charged call l)
    ∷ []

-- the steps of a judged call; step 4: an empty region has none of the rules
unfoldable pub steps : List ℕ → Call → List Answer
unfolding soundness rules
steps region call = soundness region call ++ elim (actions_of (stored_actions region)) [ [] ↦ [] | a ∷ l ↦ rules call (a ∷ l) ]

-- what a judged call answers
unfoldable pub judged : List ℕ → Call → Answer
unfolding steps
judged region call = first_refusal (steps region call)

-- step 9: the region afterwards
unfoldable pub region_after : List ℕ → Call → List ℕ
unfolding judged charged
region_after region call =
    cond (accepts (judged region call)) (glue (map (settled call.slot) (charged call (actions_of (stored_actions region))))) region
