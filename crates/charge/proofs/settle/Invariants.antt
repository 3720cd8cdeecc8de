-- `charge::settle` meets its contract. The loop's invariant: settling what is left gives what settling all of it gave.
-- Assumes nothing.
use mathlib.Core.Path.{◌≡◌}
use Rattle.charge.specs.Views.{settled_at}
use Rattle.charge.proofs.settle.Given as goal

abbrev pub invariant-loop-view : goal.invariant-loop-view
invariant-loop-view l =
    settled_at l.slot l.view-iterator.a.rest.now l.view-iterator.b.rest.now l.region ≡ settled_at l.slot l.views l.amounts l.initial.region
