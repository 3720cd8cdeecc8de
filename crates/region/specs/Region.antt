-- The action region: a row of actions, cut from bytes and glued to bytes.
-- Assumes nothing.
use Rattle.std.specs.Prelude.{ℕ, zero, suc, ◌+◌, cond, ◌&&◌, List, [], ◌∷◌, ◌++◌, leb, ltb, length, get_or, take, drop}
use Rattle.answer.specs.declared.Refusal.TheVariants.{ActionBufferInvalid}
use Rattle.answer.specs.Refusable.{Refusable, Ok, Err, change}
use Rattle.number.specs.Number.{number, bytes_of}
use Rattle.action.specs.Action.{Action, data_length}

-- the bytes of a header: type (1), data length (2), expiry (8)
abbrev pub header_length : ℕ
header_length = 11

-- the most actions of a region
abbrev pub most_actions : ℕ
most_actions = 16

-- the first action of a row of bytes, and the bytes after it
pub record First : Type 0 where
  pub act : Action
  pub rest : List ℕ

-- the data length that a header states
unfoldable pub header_data_length : List ℕ → ℕ
header_data_length s = number (take 2 (drop 1 s))

-- refused where the header is short, the type unknown or the data past the end
unfoldable pub first : List ℕ → Refusable First
unfolding header_data_length
first s =
    cond (leb header_length (length s) && ltb 0 (data_length (get_or s 0 0)) && leb (header_length + header_data_length s) (length s))
    (Ok (record {
      act = record { kind = get_or s 0 0; expires = number (take 8 (drop 3 s)); payload = take (header_data_length s) (drop header_length s) };
      rest = drop (header_length + header_data_length s) s;
    }))
    (Err ActionBufferInvalid)

-- the actions of a region, at most `most` of them
unfoldable pub cut : ℕ → List ℕ → Refusable (List Action)
unfolding first
cut zero [] = Ok []
cut zero (b ∷ bs) = Err ActionBufferInvalid
cut (suc most) [] = Ok []
cut (suc most) (b ∷ bs) =
    elim (first (b ∷ bs)) [ Ok f ↦ change (λ (l : List Action). f.act ∷ l) (cut most f.rest) | Err r ↦ Err r ]

-- the bytes of an action
unfoldable pub glue_one : Action → List ℕ
glue_one a = a.kind ∷ bytes_of 2 (length a.payload) ++ bytes_of 8 a.expires ++ a.payload

-- the bytes of a row of actions
unfoldable pub glue : List Action → List ℕ
unfolding glue_one
glue [] = []
glue (a ∷ l) = glue_one a ++ glue l
