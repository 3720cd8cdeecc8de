-- `framed::hear_opening` meets its contract: the test is the definition's, and the region is the part behind its length.
-- Assumes nothing.
use Prim.Native.Nat.{ℕ, ◌-◌}
use mathlib.Core.Path.{◌≡◌, sym, ap, ◌∙◌}
use native.Mathlib.Omega.{arith}
use lib.ListN.{length, take, drop, length-drop}
use lib.Seq.{length-take-le}
use Rattle.number.specs.Number.{number_at}
use Rattle.creation.specs.Creation.{creation}
use Rattle.frame.specs.Frame.{region_length_size, opening_region}
use Rattle.framed.proofs.Laws.{opening_waits, opening_answered}
use Rattle.framed.proofs.hear_opening.Goals as goal

pub returns-then-bytes-size : goal.returns-then-bytes-size
returns-then-bytes-size c = sym (opening_waits _ (omega arith))

pub returns : goal.returns
unfolding opening_region
returns c =
    let s = c.args.bytes.now in
    let size = c.opening_size-size in
    let len : size.result - region_length_size ≡ number_at 2 s 0 = omega (arith, size.ensures) in
    let region : c.validate_actions_buffer.result ≡ creation (opening_region s) =
    c.validate_actions_buffer.ensures ∙ ap (λ (n : ℕ). creation (take n (drop region_length_size s))) len in
    let long : length (take (number_at 2 s 0) (drop region_length_size s)) ≡ number_at 2 s 0 =
    length-take-le _ _ (rw length-drop (omega arith)) in
    rw (len, region, long) (sym (opening_answered s (omega arith)))
