-- Of the functions from 1 on, those from f on decide.
use Rattle.model.specs.Refusal.{call_row, call_rows}
use Rattle.theory.proofs.Search.{Rest}
use Rattle.tables.specs.Tables.{task_of}
use Rattle.reach.proofs.calls.first_unmarked.Given as goal

abbrev pub invariant-loop-f : goal.invariant-loop-f
invariant-loop-f l = Rest (call_rows (task_of l.task.work.now l.task.header)) (call_row (task_of l.task.work.now l.task.header)) l.f l.f-end
