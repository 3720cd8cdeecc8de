-- `table::read_records` meets its contract. The loop's invariant is `CutSoFar`.
-- Assumes nothing.
use mathlib.Core.Path.{refl, sym, ◌∙◌}
use native.Mathlib.Omega.{arith}
use lib.ListN.{length-append}
use Rattle.std.proofs.lemmas.Result.{err_from_is_err_and}
use Rattle.answer.proofs.Lent.{answer_given}
use Rattle.table.specs.Views.{places_of}
use Rattle.table.proofs.Cutting.{table_short, table_too_many}
use Rattle.table.proofs.Parsing.{cut_none, cut_all, cut_too_long, cut-stopped, cut_stays, cut-one}
use Rattle.table.proofs.read_records.Goals as goal

pub returns-then-table-lt-TABLE_HEADER_SIZE : goal.returns-then-table-lt-TABLE_HEADER_SIZE
unfolding places_of
returns-then-table-lt-TABLE_HEADER_SIZE c = record { answer = rw (table_short c.args.table.now (omega arith)); all = tt }

pub returns-then-counted-gt-MAX_RECORDS : goal.returns-then-counted-gt-MAX_RECORDS
unfolding places_of
returns-then-counted-gt-MAX_RECORDS c =
    let many = table_too_many _ (omega arith) c.read_u16-counted.result c.read_u16-counted.ensures (omega arith) in
    record { answer = rw many; all = tt }

pub loop-init : goal.loop-init
loop-init c =
    let read = c.read_u16-counted in
    rw c.requires (refl, cut_none _ read.result (omega arith) read.ensures (omega arith))

pub returns-in_err-view : goal.returns-in_err-view
unfolding places_of
returns-in_err-view c =
    let p = err_from_is_err_and c.from_residual.result c.from_residual.ensures.1 in
    let stopped = cut-stopped c.loop.invariant.1 (omega arith) _ (sym c.read_record.ensures ∙ c.in_err-view.was) in
    rw (p.1, p.2) (record { answer = rw stopped; all = tt })

pub overflow_add-at : goal.overflow_add-at
overflow_add-at c = omega (arith, cut_stays c.loop.invariant.1 (omega arith) c.in_ok-view.view (sym c.read_record.ensures ∙ c.in_ok-view.was))

pub overflow_add-at-in-loop : goal.overflow_add-at-in-loop
overflow_add-at-in-loop c = omega (arith, cut_stays c.loop.invariant.1 (omega arith) c.in_ok-view.view (sym c.read_record.ensures ∙ c.in_ok-view.was))

pub push-requires : goal.push-requires
push-requires c = omega (arith, c.loop.invariant.0, c.loop.invariant.1.few)

pub loop-preserved : goal.loop-preserved
loop-preserved c =
    let inv = c.loop.invariant in
    rw c.push.ensures.items (simp length-append (omega arith), cut-one inv.1 (omega arith) c.in_ok-view.view (sym c.read_record.ensures ∙ c.in_ok-view.was))

pub returns-then-at-table : goal.returns-then-at-table
unfolding places_of
returns-then-at-table c = record { answer = rw (cut_too_long c.loop.invariant.1 (omega arith) (omega arith)); all = tt }

pub returns : goal.returns
returns c =
    let all = cut_all c.loop.invariant.1 (omega arith) (omega arith) in
    record { answer = answer_given _ _ all; all = all }
