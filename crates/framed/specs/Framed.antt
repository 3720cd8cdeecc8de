-- The call that the front of the replay's input names.
-- Assumes nothing.
use Rattle.std.specs.Prelude.{ℕ, List}
use Rattle.judge.specs.Judge.{Call, call_of}
use Rattle.frame.specs.declared.CallView.{CallView}
use Rattle.frame.specs.Frame.{part_in}

-- its tables, instructions and vault key are parts of the bytes, its numbers stand in the call's head
abbrev pub call_in : List ℕ → CallView → Call
call_in s c =
    call_of (part_in s c.before) (part_in s c.after) (part_in s c.instructions) (part_in s c.vault) c.slot c.lamports_before c.lamports_after c.gross
