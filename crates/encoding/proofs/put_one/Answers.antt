-- `encoding::put_one` meets its contract: an entry that keeps the limits has the lengths of its ranges, so each part fits, and the parts one
-- after the other are its encoding.
-- Assumes nothing.
use Prim.Native.Nat.{ℕ, ◌+◌, ◌≤◌}
use mathlib.Core.Path.{◌≡◌, ◌∙◌}
use mathlib.Core.Bool.{true}
use mathlib.Core.List.{List}
use native.Mathlib.Omega.{arith}
use lib.ListN.{length}
use Rattle.part.proofs.Laws.{length_part_there}
use Rattle.compact.specs.declared.Entry.{Entry}
use Rattle.compact.specs.Compact.{most_accounts, most_payload, encode_one}
use Rattle.compact.specs.Entries.{range_bytes, meant}
use Rattle.encoding.specs.Encoding.{encodable_one}
use Rattle.encoding.proofs.Writing.{keeps, length_kept, one_stored}
use Rattle.encoding.proofs.put_one.Goals as goal

-- what is required, as facts of numbers
record Room (source out : List ℕ) (at : ℕ) (entry : Entry) (accounts payload : List ℕ) : Type 0 where
  few : length accounts ≤ 255
  short : length payload ≤ 65535
  fits : at + (4 + length accounts + length payload) ≤ length out
  size : length (encode_one (meant source entry)) ≡ 4 + length accounts + length payload

room : (source out : List ℕ) (at : ℕ) (entry : Entry) (accounts payload : List ℕ) → encodable_one source entry ≡ true
    → at + length (encode_one (meant source entry)) ≤ length out → accounts ≡ range_bytes source entry.accounts
    → payload ≡ range_bytes source entry.payload → Room source out at entry accounts payload
unfolding most_accounts most_payload
room source out at entry accounts payload encodable fits a p =
    let keep = keeps source entry encodable in
    let many : length accounts ≡ entry.accounts.len = rw a (length_part_there source entry.accounts.start entry.accounts.len keep.accounts) in
    let long : length payload ≡ entry.payload.len = rw p (length_part_there source entry.payload.start entry.payload.len keep.payload) in
    let size : length (encode_one (meant source entry)) ≡ 4 + length accounts + length payload = rw (many, long) (length_kept source entry keep) in
    record {
      few = omega (arith, many, keep.few);
      short = omega (arith, long, keep.short);
      fits = omega (arith, size);
      size = size;
    }

pub overflow_cast-accounts : goal.overflow_cast-accounts
overflow_cast-accounts c =
    let r = room _ _ _ _ _ _ c.requires.encodable c.requires.room c.part_at-accounts.ensures c.part_at-payload.ensures in omega (arith, r.few)

pub put-then-requires : goal.put-then-requires
put-then-requires c =
    let r = room _ _ _ _ _ _ c.requires.encodable c.requires.room c.part_at-accounts.ensures c.part_at-payload.ensures in omega (arith, r.fits)

pub put-then-requires-2 : goal.put-then-requires-2
put-then-requires-2 c =
    let r = room _ _ _ _ _ _ c.requires.encodable c.requires.room c.part_at-accounts.ensures c.part_at-payload.ensures in
    omega (arith, r.fits, c.put-then.ensures.place, c.put-then.auto.out)

pub overflow_cast-payload : goal.overflow_cast-payload
overflow_cast-payload c =
    let r = room _ _ _ _ _ _ c.requires.encodable c.requires.room c.part_at-accounts.ensures c.part_at-payload.ensures in omega (arith, r.short)

pub put-then-requires-3 : goal.put-then-requires-3
put-then-requires-3 c =
    let r = room _ _ _ _ _ _ c.requires.encodable c.requires.room c.part_at-accounts.ensures c.part_at-payload.ensures in
    rw c.to_le_bytes.ensures (omega (arith, r.fits, c.put-then.ensures.place, c.put-then.auto.out, c.put-then-2.ensures.place, c.put-then-2.auto.out))

pub put-requires : goal.put-requires
put-requires c =
    let r = room _ _ _ _ _ _ c.requires.encodable c.requires.room c.part_at-accounts.ensures c.part_at-payload.ensures in
    let two : length c.to_le_bytes.result ≡ 2 = rw c.to_le_bytes.ensures in
    omega (arith, two, r.fits, c.put-then.ensures.place, c.put-then.auto.out, c.put-then-2.ensures.place, c.put-then-2.auto.out, c.put-then-3.ensures.place, c.put-then-3.auto.out)

pub returns-clause-place : goal.returns-clause-place
returns-clause-place c =
    let r = room _ _ _ _ _ _ c.requires.encodable c.requires.room c.part_at-accounts.ensures c.part_at-payload.ensures in
    let two : length c.to_le_bytes.result ≡ 2 = rw c.to_le_bytes.ensures in
    omega (arith, two, r.size, c.put-then.ensures.place, c.put-then-2.ensures.place, c.put-then-3.ensures.place, c.put.ensures.place)

pub returns-clause-after : goal.returns-clause-after
returns-clause-after c =
    let two : length c.to_le_bytes.result ≡ 2 = rw c.to_le_bytes.ensures in
    let third : c.put-then-3.result ≡ c.put-then-2.result + 2 = c.put-then-3.ensures.place ∙ rw two in
    let second : c.put-then-2.result ≡ c.put-then.result + length (range_bytes c.args.source.now c.args.entry.accounts) =
    c.put-then-2.ensures.place ∙ rw c.part_at-accounts.ensures in
    rw (c.put.ensures.after, c.put-then-3.ensures.after, c.put-then-2.ensures.after, c.put-then.ensures.after, c.to_le_bytes.ensures, c.part_at-accounts.ensures, c.part_at-payload.ensures)
    (one_stored c.args.source.now c.args.entry c.args.out.now c.args.at c.put-then.result c.put-then-2.result c.put-then-3.result c.put-then.ensures.place second third)
