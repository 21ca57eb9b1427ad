-- The loop raises the number of one callee a turn.
use native.Mathlib.Omega.{arith}
use Rattle.columns.proofs.Raises.{raising-none, raising-call, raising-other}
use Rattle.columns.proofs.raise.Goals as goal
use Rattle.columns.proofs.raise.Goals.{in-Some, in_default}

pub loop-p-init : goal.loop-p-init
loop-p-init c = raising-none _ _ _ _

pub loop-p-preserved : goal.loop-p-preserved
loop-p-preserved c =
    let l = c.loop-p in
    let a = c.args in
    elim c.match-func_called_at.branch [
      | in-Some w ↦
          rw w.work-is
          (raising-call a.at a.s a.values.now l.work l.p (omega arith) c.requires.0 (omega arith) l.invariant w.in-Some.ensures.0 w.in-Some.ensures.1
          (omega arith) w.max.ensures)
      | in_default w ↦
          rw w.work-is
          (raising-other a.at a.s a.values.now l.work l.p (omega arith) c.requires.0 (omega arith) l.invariant w.in_default.ensures)
    ]
