-- What is kept, with what the functions from f on give, is what those from the first on give.
use mathlib.Core.Path.{◌≡◌}
use Rattle.tables.specs.Tables.{task_of}
use Rattle.reach.specs.Reach.{verdict_from}
use Rattle.reach.proofs.solved_rows.Given as goal

abbrev pub invariant-loop-f : goal.invariant-loop-f
invariant-loop-f l = verdict_from (task_of l.linked.task.work.now l.linked.task.header) l.f l.f-end l.kept ≡ verdict_from (task_of l.linked.task.work.now l.linked.task.header) l.initial.f l.f-end l.initial.kept
