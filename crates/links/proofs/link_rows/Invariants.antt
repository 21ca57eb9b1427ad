-- The functions that are left give the answer of all.
use Rattle.model.specs.Refusal.{link_rows}
use Rattle.tables.specs.Tables.{task_of}
use Rattle.theory.proofs.Search.{Rest}
use Rattle.links.specs.Links.{func_row}
use Rattle.links.proofs.link_rows.Given as goal

abbrev pub invariant-loop-f : goal.invariant-loop-f
invariant-loop-f l = Rest (link_rows (task_of l.task.work.now l.task.header)) (func_row (task_of l.task.work.now l.task.header)) l.f l.task.header.funcs
