-- `charge::class_answer` meets its contract. The loop's invariant: the charges that are left answer what all do.
-- Assumes nothing.
use mathlib.Core.Path.{◌≡◌}
use Rattle.charge.proofs.Charging.{left_answer}
use Rattle.charge.proofs.class_answer.Given as goal

abbrev pub invariant-loop-view : goal.invariant-loop-view
invariant-loop-view l =
    left_answer l.class l.slot l.region l.view-iterator.a.rest.now l.view-iterator.b.rest.now ≡ left_answer l.class l.slot l.region l.views l.amounts
