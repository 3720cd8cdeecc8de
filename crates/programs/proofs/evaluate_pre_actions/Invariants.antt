-- `programs::evaluate_pre_actions` meets its contract. The loop's invariant: the instructions that are left answer what all do.
-- Assumes nothing.
use mathlib.Core.Path.{◌≡◌}
use lib.ListN.{drop}
use Rattle.row.specs.Views.{actions_in}
use Rattle.account.specs.Views.{table_records}
use Rattle.programs.specs.Programs.{programs_answer}
use Rattle.programs.proofs.evaluate_pre_actions.Given as goal

abbrev pub invariant-loop-program : goal.invariant-loop-program
invariant-loop-program l =
    programs_answer l.slot (actions_in l.region l.views) (table_records l.table) (drop l.program-index l.programs)
    ≡ programs_answer l.slot (actions_in l.region l.views) (table_records l.table) l.programs
