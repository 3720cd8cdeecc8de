-- `limit::window_start` meets its contract: a quotient times its divisor is no larger than what was divided.
-- Assumes nothing.
use native.Mathlib.Omega.{arith}
use native.Mathlib.Nat.{div-mul-le_self, mul-zero}
use Rattle.limit.proofs.window_start.Goals as goal

pub returns-then-window-eq0 : goal.returns-then-window-eq0
returns-then-window-eq0 c = rw (c.if-window-eq0.true, mul-zero)

pub overflow_mul-result : goal.overflow_mul-result
overflow_mul-result c = omega (arith, div-mul-le_self c.args.slot c.args.window)
