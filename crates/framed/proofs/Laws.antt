-- What bytes come to, each by the tests that lead to it; and a call that was read lies before whatever follows it.
-- Assumes nothing.
use Prim.Native.Nat.{ℕ, ◌<◌, ◌≤◌}
use mathlib.Core.Path.{◌≡◌}
use mathlib.Core.List.{List, ◌++◌}
use native.Mathlib.Omega.{arith}
use borrow.Author.Tests.{le-leb, lt-leb}
use lib.ListN.{length}
use Rattle.number.specs.Number.{number_at}
use Rattle.part.proofs.Laws.{part_before_more}
use Rattle.creation.specs.Creation.{creation}
use Rattle.judge.specs.Judge.{judged, region_after}
use Rattle.frame.specs.declared.CallView.{CallView}
use Rattle.frame.specs.declared.Front.TheVariants.{Whole, Long, Short}
use Rattle.frame.specs.Frame.{opening_size, opening_region, parts_length, whole_call, front_of}
use Rattle.frame.proofs.Theorems.{call_is_there}
use Rattle.framed.specs.declared.Heard.TheVariants.{Waiting, TooLong, Opened, Judged}
use Rattle.framed.specs.Framed.{call_in}
use Rattle.framed.specs.Views.{opening_heard, call_heard, region_heard}

module _ (s : List ℕ) where
  pub opening_waits : length s < opening_size s → opening_heard s ≡ Waiting
  unfolding opening_heard
  opening_waits short = rw (lt-leb _ _ short)

  pub opening_answered : opening_size s ≤ length s → opening_heard s ≡ Opened (number_at 2 s 0) (creation (opening_region s))
  unfolding opening_heard
  opening_answered all = rw (le-leb _ _ all)

  module _ (region : List ℕ) where
    pub call_judged : (c : CallView) → front_of s ≡ Whole c → call_heard region s ≡ Judged (judged region (call_in s c))
    unfolding call_heard
    call_judged c front = rw (front, call_heard)

    pub call_too_long : front_of s ≡ Long → call_heard region s ≡ TooLong
    unfolding call_heard
    call_too_long front = rw (front, call_heard)

    pub call_waits : front_of s ≡ Short → call_heard region s ≡ Waiting
    unfolding call_heard
    call_waits front = rw (front, call_heard)

    pub region_judged : (c : CallView) → front_of s ≡ Whole c → region_heard region s ≡ region_after region (call_in s c)
    unfolding region_heard
    region_judged c front = rw (front, region_heard)

    pub region_too_long : front_of s ≡ Long → region_heard region s ≡ region
    unfolding region_heard
    region_too_long front = rw (front, region_heard)

    pub region_waits : front_of s ≡ Short → region_heard region s ≡ region
    unfolding region_heard
    region_waits front = rw (front, region_heard)

pub call_before_more_input : (s t : List ℕ) (c : CallView) → front_of s ≡ Whole c → call_in (s ++ t) c ≡ call_in s c
unfolding parts_length whole_call
call_before_more_input s t c front =
    let there = call_is_there s c front in
    let whole = there.whole in
    let size = there.size in
    let all = there.all in
    let before = part_before_more s t (whole_call s).before.at (whole_call s).before.len (omega arith) in
    let after = part_before_more s t (whole_call s).after.at (whole_call s).after.len (omega arith) in
    let instructions = part_before_more s t (whole_call s).instructions.at (whole_call s).instructions.len (omega arith) in
    let vault = part_before_more s t 44 32 (omega arith) in
    rw whole (rw (before, after, instructions, vault))
