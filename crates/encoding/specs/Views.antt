-- The values that the code hands on between steps.
-- Assumes nothing.
use Rattle.std.specs.Prelude.{ℕ, Bool, cond}
use Rattle.answer.specs.declared.Refusal.TheVariants.{NotEncodable}
use Rattle.answer.specs.Refusable.{Refusable, Ok, Err}

-- the code's answer to sizing what is to be written: the size where the limits are kept
unfoldable pub size_if : Bool → ℕ → Refusable ℕ
size_if kept size = cond kept (Ok size) (Err NotEncodable)
