-- Step 5: each instruction's program against the lists.
-- Assumes nothing.
use Rattle.std.specs.Prelude.{ℕ, Bool, false, not, ◌&&◌, ◌||◌, List, [], ◌∷◌, map, eqb, ltb, length}
use Rattle.answer.specs.declared.Refusal.TheVariants.{InvalidInstructionData, ActionProgramNotWhitelisted, ActionProgramBlacklisted}
use Rattle.answer.specs.Numbers.{Answer, first_refusal, refuse_if}
use Rattle.key.specs.Key.{same_key}
use Rattle.action.specs.Action.{Action, expired, program_whitelist, program_blacklist}
use Rattle.action.specs.Fields.{key_of}
use Rattle.creation.specs.Creation.{how_often, kinds_of}
use Rattle.account.specs.Record.{Record}
use Rattle.lookup.specs.Indexes.{key_among}

-- whether a live entry of a list, whitelist or blacklist, has a key
unfoldable pub in_live_list : ℕ → ℕ → List ℕ → List Action → Bool
in_live_list kind slot key [] = false
in_live_list kind slot key (a ∷ l) =
    eqb a.kind kind && not (expired a.expires slot) && same_key (key_of a) key || in_live_list kind slot key l

-- what a program's key answers: any whitelist, live or not, demands a live one with the key; no live blacklist may have it
unfoldable pub lists_answer : ℕ → List Action → List ℕ → Answer
unfolding in_live_list
lists_answer slot l key =
    first_refusal
    (refuse_if (ltb 0 (how_often program_whitelist (kinds_of l)) && not (in_live_list program_whitelist slot key l)) ActionProgramNotWhitelisted
    ∷ refuse_if (in_live_list program_blacklist slot key l) ActionProgramBlacklisted
    ∷ [])

-- what a program index answers: first that it is in range
unfoldable pub program_answer : ℕ → List Action → List Record → ℕ → Answer
unfolding lists_answer
program_answer slot l records program =
    first_refusal
    (refuse_if (not (ltb program (length records))) InvalidInstructionData ∷ lists_answer slot l (key_among records program) ∷ [])

-- each instruction's program index in turn
unfoldable pub programs_answer : ℕ → List Action → List Record → List ℕ → Answer
unfolding program_answer
programs_answer slot l records programs = first_refusal (map (program_answer slot l records) programs)
