-- A replay as the bursar's run: the calls that it runs on its opening region, and its lines by the numbers of that run.
-- Assumes nothing.
use Rattle.std.specs.Prelude.{ℕ, ◌+◌, ◌≤◌, ◌≡◌, true, cond, List, [], ◌∷◌, ◌++◌, length, drop}
use Rattle.answer.specs.Numbers.{accepts, accepted}
use Rattle.number.specs.Number.{Bytes}
use Rattle.creation.specs.Creation.{creation, how_often}
use Rattle.frame.specs.Frame.{opening_size, opening_region}
use Rattle.replayed.specs.Replay.{ReadCalls, calls_in, Line, region_line, call_line, cut_line, end_line}

-- what follows the opening, cut into calls
abbrev pub run_of : List ℕ → ReadCalls
run_of input = calls_in (drop (opening_size input) input)

-- bytes whose opening is all there and whose region creation accepted
pub record Opened (input : List ℕ) : Type 0 where
  pub bytes : Bytes input
  pub all_there : opening_size input ≤ length input
  pub accepts_it : accepts (creation (opening_region input)) ≡ true

-- the lines of calls that were answered with some numbers, where so many came before
unfoldable pub numbered : ℕ → List ℕ → List Line
numbered before [] = []
numbered before (n ∷ numbers) = call_line (before + 1) n ∷ numbered (before + 1) numbers

-- the lines of a run that was answered with some numbers, cut or not
unfoldable pub printed : ReadCalls → List ℕ → List Line
unfolding numbered
printed calls numbers = region_line accepted ∷ (numbered 0 numbers ++ (cond calls.is_cut (cut_line ∷ []) [] ++ (end_line (how_often accepted numbers) ∷ [])))
