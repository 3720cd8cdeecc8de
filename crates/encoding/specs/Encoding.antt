-- Writing compact instructions: the limits, the answer, and the output afterwards.
-- Assumes nothing.
use Rattle.std.specs.Prelude.{ℕ, Bool, true, not, cond, ◌&&◌, List, [], ◌∷◌, ◌++◌, leb, ltb, length, drop}
use Rattle.answer.specs.declared.Refusal.TheVariants.{NoRoom, NotEncodable}
use Rattle.answer.specs.Numbers.{Answer, accepts, first_refusal, refuse_if}
use Rattle.answer.specs.Refusable.{Refusable, change}
use Rattle.compact.specs.declared.Entry.{Entry}
use Rattle.compact.specs.Compact.{most_instructions, most_accounts, most_payload, encode}
use Rattle.compact.specs.Entries.{list_of, within}

-- whether an entry keeps the writer's limits
unfoldable pub encodable_one : List ℕ → Entry → Bool
encodable_one source e =
    leb e.accounts.len most_accounts && leb e.payload.len most_payload && within source e.accounts && within source e.payload

-- whether each of some entries does
unfoldable pub encodable_each : List ℕ → List Entry → Bool
encodable_each source [] = true
encodable_each source (e ∷ es) = encodable_one source e && encodable_each source es

-- whether a list keeps the writer's limits
unfoldable pub encodable : List ℕ → List Entry → Bool
encodable source es = leb (length es) most_instructions && encodable_each source es

-- the answer to writing: first the limits, then the room
unfoldable pub writing_answer : List Entry → List ℕ → List ℕ → Answer
writing_answer es source out =
    first_refusal
    (refuse_if (not (encodable source es)) NotEncodable
    ∷ refuse_if (ltb (length out) (length (encode (list_of source es)))) NoRoom
    ∷ [])

-- writing: the bytes written, or the refusal
unfoldable pub writing : List Entry → List ℕ → List ℕ → Refusable ℕ
writing es source out = change (λ (done : Unit {0}). length (encode (list_of source es))) (writing_answer es source out)

-- the output afterwards: the encoding, then the rest as it was; all of it as it was on a refusal
unfoldable pub output_after : List Entry → List ℕ → List ℕ → List ℕ
output_after es source out =
    cond (accepts (writing_answer es source out)) (encode (list_of source es) ++ drop (length (encode (list_of source es))) out) out
