-- `encoding::serialize_compact_instructions` meets its contract: the tests are the definition's, in its order. The loop's invariant: storing
-- the encodings that are left at `at` gives what storing all of them gives.
-- Assumes nothing.
use Prim.Native.Nat.{ℕ, ◌≤◌}
use mathlib.Core.Path.{◌≡◌, sym, ◌∙◌}
use mathlib.Core.Bool.{true}
use mathlib.Core.List.{List}
use native.Mathlib.Omega.{arith}
use lib.ListN.{length}
use Rattle.std.proofs.lemmas.Result.{err_from_is_err_and}
use Rattle.answer.specs.declared.Refusal.{Refusal}
use Rattle.answer.specs.Refusable.{Ok, Err}
use Rattle.compact.specs.declared.Entry.{Entry}
use Rattle.compact.specs.Compact.{most_instructions, encode}
use Rattle.compact.specs.Entries.{list_of}
use Rattle.encoding.specs.Encoding.{encodable_each, encodable, writing, output_after}
use Rattle.encoding.specs.Views.{size_if}
use Rattle.encoding.proofs.Writing.{sized, not_sized, writing_too_many, writing-breaks, writing-keeps, not_encodable_lem, no_room_lem, written, stored_none, stored_all, stored_one, next_encodable, next_fits, all_stored}
use Rattle.encoding.proofs.serialize_compact_instructions.Goals as goal

-- what the size says once there is one
record Sized (source : List ℕ) (es : List Entry) (n : ℕ) : Type 0 where
  each : encodable_each source es ≡ true
  all : encodable source es ≡ true
  size : length (encode (list_of source es)) ≡ n

says : (source : List ℕ) (es : List Entry) (n : ℕ) → length es ≤ 16
    → size_if (encodable_each source es) (length (encode (list_of source es))) ≡ Ok n → Sized source es n
unfolding most_instructions
says source es n few told =
    let s = sized _ _ _ told in
    record { each = s.0; all = writing-keeps es source few s.0; size = s.1 }

-- what a refusal to size says
refused : (source out : List ℕ) (es : List Entry) (r : Refusal) → size_if (encodable_each source es) (length (encode (list_of source es))) ≡ Err r
    → (Err r ≡ writing es source out) × (out ≡ output_after es source out)
refused source out es r told =
    let broken = not_sized _ _ r told in
    rw broken.1 (not_encodable_lem es source out (writing-breaks es source broken.0))

pub returns-then-entries-gt-MAX_COMPACT_INSTRUCTIONS-clause-written : goal.returns-then-entries-gt-MAX_COMPACT_INSTRUCTIONS-clause-written
unfolding most_instructions
returns-then-entries-gt-MAX_COMPACT_INSTRUCTIONS-clause-written c = (not_encodable_lem _ _ _ (writing_too_many c.args.entries.now _ (omega arith))).0

pub returns-then-entries-gt-MAX_COMPACT_INSTRUCTIONS-clause-after : goal.returns-then-entries-gt-MAX_COMPACT_INSTRUCTIONS-clause-after
unfolding most_instructions
returns-then-entries-gt-MAX_COMPACT_INSTRUCTIONS-clause-after c = (not_encodable_lem _ _ _ (writing_too_many c.args.entries.now _ (omega arith))).1

pub size_of-requires : goal.size_of-requires
unfolding most_instructions
size_of-requires c = omega arith

pub returns-in_err-size-clause-written : goal.returns-in_err-size-clause-written
returns-in_err-size-clause-written c =
    let p = err_from_is_err_and c.from_residual.result c.from_residual.ensures.1 in
    rw (p.1, p.2) (refused c.args.source.now c.args.out.now c.args.entries.now _ (sym c.size_of.ensures ∙ c.in_err-size.was)).0

pub returns-in_err-size-clause-after : goal.returns-in_err-size-clause-after
returns-in_err-size-clause-after c = (refused c.args.source.now c.args.out.now c.args.entries.now _ (sym c.size_of.ensures ∙ c.in_err-size.was)).1

pub returns-then-out-size-clause-written : goal.returns-then-out-size-clause-written
returns-then-out-size-clause-written c =
    let s = says c.args.source.now c.args.entries.now _ (omega arith) (sym c.size_of.ensures ∙ c.in_ok-size.was) in
    (no_room_lem c.args.entries.now c.args.source.now c.args.out.now s.all (omega (arith, s.size))).0

pub returns-then-out-size-clause-after : goal.returns-then-out-size-clause-after
returns-then-out-size-clause-after c =
    let s = says c.args.source.now c.args.entries.now _ (omega arith) (sym c.size_of.ensures ∙ c.in_ok-size.was) in
    (no_room_lem c.args.entries.now c.args.source.now c.args.out.now s.all (omega (arith, s.size))).1

pub put-at-requires : goal.put-at-requires
unfolding encode
put-at-requires c =
    let s = says c.args.source.now c.args.entries.now _ (omega arith) (sym c.size_of.ensures ∙ c.in_ok-size.was) in omega (arith, s.size)

pub loop-entry-init : goal.loop-entry-init
loop-entry-init c =
    let s = says c.args.source.now c.args.entries.now _ (omega arith) (sym c.size_of.ensures ∙ c.in_ok-size.was) in
    rw (c.put-at.ensures.place, c.put-at.ensures.after) (stored_none c.args.source.now c.args.entries.now c.args.out.now s.each)

pub put_one-at-requires-clause-encodable : goal.put_one-at-requires-clause-encodable
put_one-at-requires-clause-encodable c = next_encodable c.loop-entry.invariant (omega arith) _

pub put_one-at-requires-clause-room : goal.put_one-at-requires-clause-room
put_one-at-requires-clause-room c =
    let s = says c.args.source.now c.args.entries.now _ (omega arith) (sym c.size_of.ensures ∙ c.in_ok-size.was) in
    next_fits c.loop-entry.invariant (omega arith) _ (length c.loop-entry.out) (omega (arith, s.size, c.loop-entry.auto.out))

pub loop-entry-preserved : goal.loop-entry-preserved
loop-entry-preserved c = rw c.put_one-at.ensures.after (stored_one c.loop-entry.invariant (omega arith) _ c.put_one-at.result c.put_one-at.ensures.place)

pub returns-clause-written : goal.returns-clause-written
returns-clause-written c =
    let s = says c.args.source.now c.args.entries.now _ (omega arith) (sym c.size_of.ensures ∙ c.in_ok-size.was) in
    let room : length (encode (list_of c.args.source.now c.args.entries.now)) ≤ length c.args.out.now = omega (arith, s.size) in
    rw (stored_all c.loop-entry.invariant (omega arith)).0 (written c.args.entries.now c.args.source.now c.args.out.now s.all room).0

pub returns-clause-after : goal.returns-clause-after
returns-clause-after c =
    let s = says c.args.source.now c.args.entries.now _ (omega arith) (sym c.size_of.ensures ∙ c.in_ok-size.was) in
    let room : length (encode (list_of c.args.source.now c.args.entries.now)) ≤ length c.args.out.now = omega (arith, s.size) in
    (stored_all c.loop-entry.invariant (omega arith)).1 ∙ all_stored c.args.entries.now c.args.source.now c.args.out.now room
    ∙ (written c.args.entries.now c.args.source.now c.args.out.now s.all room).1
