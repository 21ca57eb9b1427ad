-- 22 before 20, and 20 before 21.
use native.Mathlib.Omega.{arith}
use mathlib.Core.Path.{sym, ◌∙◌}
use Rattle.tables.specs.Tables.{task_of}
use Rattle.turns.proofs.Events.{row-finished, row-kind, row-preempts, row-value, row-choice, row-steps-on}
use Rattle.turns.proofs.decode.Goals as goal

pub returns-then-x-eq0 : goal.returns-then-x-eq0
returns-then-x-eq0 c = let a = c.args in row-finished (task_of a.work.now a.h) a.work.now a.x a.i a.kind a.value (omega arith)

pub returns-in_default : goal.returns-in_default
returns-in_default c = let a = c.args in row-kind (task_of a.work.now a.h) a.work.now a.x a.i a.kind a.value (omega arith) (omega arith)

pub returns-in-0 : goal.returns-in-0
returns-in-0 c =
    let a = c.args in
    row-choice (task_of a.work.now a.h) a.work.now a.x a.i a.kind a.value (omega arith) c.in-0.is c.if-value-gt1.true
    (sym c.at_either.ensures ∙ c.if-at_either.true)

pub returns-in-0-2 : goal.returns-in-0-2
returns-in-0-2 c =
    let a = c.args in
    row-steps-on (task_of a.work.now a.h) a.work.now a.x a.i a.kind a.value (omega arith) c.in-0.is
    (sym c.at_either.ensures ∙ c.if-at_either.false)

pub returns-in-0-2-2 : goal.returns-in-0-2-2
returns-in-0-2-2 c = let a = c.args in row-value (task_of a.work.now a.h) a.work.now a.x a.i a.kind a.value (omega arith) c.in-0.is c.if-value-gt1.false

pub returns-in-1 : goal.returns-in-1
returns-in-1 c = let a = c.args in row-preempts (task_of a.work.now a.h) a.work.now a.x a.i a.kind a.value (omega arith) c.in-1.is
