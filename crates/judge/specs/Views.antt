-- The values that the code hands on between steps.
-- Assumes nothing.
use Rattle.std.specs.Prelude.{ℕ, Bool, not, List, [], ◌∷◌, map}
use Rattle.answer.specs.declared.Refusal.TheVariants.{SessionTokenAuthorityChanged}
use Rattle.answer.specs.Numbers.{Answer, first_refusal, refuse_if}
use Rattle.answer.specs.Refusable.{Ok}
use Rattle.keys.specs.declared.Keys.{Keys}
use Rattle.keys.specs.Views.{is_among, keys_in}
use Rattle.action.specs.Action.{Action}
use Rattle.mints.specs.Views.{listed_mints}
use Rattle.account.specs.Record.{Record}
use Rattle.account.specs.Views.{table_records}
use Rattle.balance.specs.Views.{sums_of}
use Rattle.limit.specs.Limit.{Charge}
use Rattle.charge.specs.declared.Class.TheVariants.{Sol, Tokens}
use Rattle.charge.specs.Classes.{class_answer}
use Rattle.programs.specs.Programs.{programs_answer}
use Rattle.freeze.specs.Freeze.{all_frozen}
use Rattle.outflow.specs.declared.Outflow.{Outflow}
use Rattle.outflow.specs.Outflow.{amount_from}
use Rattle.judge.specs.declared.Call.{Call as LentCall}
use Rattle.judge.specs.Judge.{Call, call_of}

-- the call of what is lent to the code
abbrev pub call_lent : LentCall → Call
call_lent c = call_of c.before.now c.after.now c.instructions.now c.vault.now c.slot c.lamports_before c.lamports_after c.gross

-- the amounts that the rules of some actions look at, from what a call moved
unfoldable pub amounts_moved : Outflow → List Action → List ℕ
amounts_moved moved l = (sums_of (map (amount_from moved.vault.now (table_records moved.before) (table_records moved.after) moved.sol moved.gross) l)).list

-- whether the authorities of the accounts of some mints stay as they were
unfoldable pub frozen_from : List ℕ → List Record → List Record → Keys → Bool
frozen_from vault before after mints = all_frozen vault (λ (mint : List ℕ). is_among mint (keys_in mints)) after before

-- steps 5 and 6: the programs and the freeze
unfoldable pub checks_from : ℕ → List ℕ → List Record → List Record → List ℕ → Keys → List Action → Answer
unfolding frozen_from
checks_from slot vault before after programs mints l =
    first_refusal
    (programs_answer slot l before programs
    ∷ refuse_if (not (frozen_from vault before after mints)) SessionTokenAuthorityChanged
    ∷ [])

-- steps 7 and 8: the SOL rules and the token rules
unfoldable pub limits_from : ℕ → List Charge → Answer
limits_from slot charges = first_refusal (class_answer Sol slot charges ∷ class_answer Tokens slot charges ∷ [])

-- steps 4 to 8
unfoldable pub rules_from : ℕ → List ℕ → List Record → List Record → List ℕ → List Charge → List Action → Answer
unfolding checks_from limits_from
rules_from slot vault before after programs charges [] = Ok tt
rules_from slot vault before after programs charges (a ∷ l) =
    first_refusal (checks_from slot vault before after programs (listed_mints (a ∷ l)) (a ∷ l) ∷ limits_from slot charges ∷ [])
