-- The replay: what is printed for the bytes of an input.
-- Assumes nothing.
use Rattle.std.specs.Prelude.{ℕ, zero, suc, ◌+◌, Bool, true, false, cond, List, [], ◌∷◌, leb, ltb, length, drop}
use Rattle.answer.specs.Numbers.{number_of, accepts}
use Rattle.creation.specs.Creation.{creation}
use Rattle.judge.specs.Judge.{Call, judged, region_after}
use Rattle.frame.specs.declared.Front.TheVariants.{Whole, Long, Short}
use Rattle.frame.specs.Frame.{call_head, opening_size, opening_region, parts_length, front_of}
use Rattle.framed.specs.Framed.{call_in}

-- the calls in some bytes, and whether the bytes are cut behind them
pub record ReadCalls : Type 0 where
  pub list : List Call
  pub is_cut : Bool

-- with a call before them
abbrev pub one_more : Call → ReadCalls → ReadCalls
one_more call rest = record { list = call ∷ rest.list; is_cut = rest.is_cut }

-- at most so many calls, until the bytes end, stop inside a call, or hold one whose parts are too long
unfoldable pub calls_up_to : ℕ → List ℕ → ReadCalls
calls_up_to zero s = record { list = []; is_cut = false }
calls_up_to (suc most) s =
    elim (front_of s) [
      | Whole c ↦ one_more (call_in s c) (calls_up_to most (drop (call_head + parts_length s) s))
      | Long ↦ record { list = []; is_cut = true }
      | Short ↦ record { list = []; is_cut = ltb 0 (length s) }
    ]

-- all of them: no more calls than bytes
unfoldable pub calls_in : List ℕ → ReadCalls
unfolding calls_up_to
calls_in s = calls_up_to (length s) s

-- a line: the region's number; which call, and its number; cut; how many calls were accepted
pub data Line : Type 0 where
  region_line : ℕ → Line
  call_line : ℕ → ℕ → Line
  cut_line : Line
  end_line : ℕ → Line

-- the lines of some calls on a region, where so many calls came before and so many of them were accepted: each is judged on what the one before it left
unfoldable pub call_lines : List ℕ → ℕ → ℕ → Bool → List Call → List Line
call_lines held calls accepted is_cut [] = cond is_cut (cut_line ∷ end_line accepted ∷ []) (end_line accepted ∷ [])
call_lines held calls accepted is_cut (c ∷ l) =
    call_line (calls + 1) (number_of (judged held c)) ∷ call_lines (region_after held c) (calls + 1) (accepted + cond (accepts (judged held c)) 1 0) is_cut l

-- the lines behind the opening: a refused region runs no calls
unfoldable pub lines_from : List ℕ → ReadCalls → List Line
unfolding call_lines
lines_from held calls =
    region_line (number_of (creation held)) ∷ cond (accepts (creation held)) (call_lines held 0 0 calls.is_cut calls.list) (end_line 0 ∷ [])

-- the lines of an input: cut where it stops inside the opening
unfoldable pub replay_of : List ℕ → List Line
unfolding lines_from calls_in
replay_of s = cond (leb (opening_size s) (length s)) (lines_from (opening_region s) (calls_in (drop (opening_size s) s))) (cut_line ∷ end_line 0 ∷ [])
