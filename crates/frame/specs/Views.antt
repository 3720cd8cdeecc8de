-- How much of the input the code looks at.
-- Assumes nothing.
use Rattle.std.specs.Prelude.{ℕ, ◌+◌, cond, List, leb, length}
use Rattle.frame.specs.Frame.{call_head, most_parts, parts_length}

-- how many bytes a call has, as far as some bytes tell: its head, and behind a whole head its parts where they are not too long
unfoldable pub call_size : List ℕ → ℕ
unfolding parts_length
call_size s = cond (leb call_head (length s)) (cond (leb (parts_length s) most_parts) (call_head + parts_length s) call_head) call_head
