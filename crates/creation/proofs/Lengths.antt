-- What was cut into actions of the listed lengths: how long the region can be, and that the actions are regular.
-- Assumes nothing.
use mathlib.Core.Path.{◌≡◌, sym, subst}
use mathlib.Core.Bool.{true, and-eq-true_iff}
use mathlib.Core.List.{List}
use Prim.Native.Nat.{ℕ, ◌+◌, ◌*◌, ◌^◌, ◌<◌, ◌≤◌}
use native.Mathlib.Omega.{arith}
use borrow.Author.Tests.{eqb-true}
use lib.ListN.{length, take, drop, length-drop}
use lib.Seq.{length-take-le}
use Rattle.answer.specs.Each.{Each}
use Rattle.number.specs.Number.{number, Bytes}
use Rattle.number.proofs.Laws.{number_below, bytes_take, bytes_drop}
use Rattle.action.specs.Action.{Action, data_length}
use Rattle.action.proofs.Regular.{Regular}
use Rattle.action.proofs.Lengths.{data_at_most}
use Rattle.region.proofs.Cuts.{Cuts, none, more}
use Rattle.creation.specs.declared.Rule.TheVariants.{Length}
use Rattle.creation.specs.Creation.{keeps, all_keep}

-- at most n actions with the lengths that are listed take at most 75 bytes each: for 16 actions, 1,200
pub region_at_most : {n : ℕ} {s : List ℕ} {l : List Action} → Cuts n s l → all_keep Length l ≡ true → length s ≤ 75 * n
unfolding all_keep keeps
region_at_most none e = omega arith
region_at_most {s = s} (more {f = f} facts cuts) e =
    let (here, after) = (and-eq-true_iff (keeps Length f.act) _).0 e in
    let size : length f.act.payload ≡ data_length f.act.kind = eqb-true _ _ here in
    let rest = rw (facts.rest_is, length-drop (11 + length f.act.payload) s) at (region_at_most cuts after) in
    omega (arith, data_at_most f.act.kind)

-- what was cut from bytes, each with its listed length
pub cut_regular : {n : ℕ} {s : List ℕ} {l : List Action} → Cuts n s l → Bytes s → all_keep Length l ≡ true → Each Regular l
unfolding all_keep keeps
cut_regular none bytes e = tt
cut_regular {s = s} (more {f = f} facts cuts) bytes e =
    let (here, after) = (and-eq-true_iff (keeps Length f.act) _).0 e in
    let part = take 8 (drop 3 s) in
    let long : length part ≡ 8 = length-take-le 8 (drop 3 s) (rw (length-drop 3 s) (omega (arith, facts.within))) in
    let soon : number part < 256 ^ 8 = subst (λ (w : ℕ). number part < 256 ^ w) long (number_below part (bytes_take 8 (drop 3 s) (bytes_drop 3 s bytes))) in (
      record {
        known = facts.known;
        soon = rw facts.expires_is soon;
        sized = eqb-true _ _ here;
        bytes = subst Bytes (sym facts.payload_is) (bytes_take (length f.act.payload) (drop 11 s) (bytes_drop 11 s bytes));
      },
      cut_regular cuts (subst Bytes (sym facts.rest_is) (bytes_drop (11 + length f.act.payload) s bytes)) after,
    )
