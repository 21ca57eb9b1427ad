-- The points that are left give the answer of all, and in the end only the last is left.
use Rattle.model.specs.Refusal.{link_row}
use Rattle.tables.specs.Tables.{task_of}
use Rattle.theory.proofs.Search.{Rest}
use Rattle.links.specs.Links.{func_row}
use Rattle.links.proofs.func_rows.Given as goal

abbrev pub invariant-loop-p : goal.invariant-loop-p
invariant-loop-p l = Rest (func_row (task_of l.task.work.now l.task.header) l.f) (link_row (task_of l.task.work.now l.task.header) l.f) l.p l.func.span.size
