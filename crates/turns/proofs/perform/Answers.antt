-- A step or a preemption, by the event.
use native.Mathlib.Omega.{arith}
use Rattle.turns.proofs.Given.{runs-placed, runs-good, runs-inside, placed-few, placed-point, placed-is}
use Rattle.turns.proofs.Events.{step-turns, preempt-turns}
use Rattle.turns.proofs.perform.Goals as goal

pub returns-in-Step : goal.returns-in-Step
returns-in-Step c =
    let e = placed-is (runs-placed c.requires.0) c.requires.1 _ _ c.span_at-s.ensures c.point_at-y.ensures in
    rw c.in-Step.is (step-turns _ _ _ c.args.x _ _ c.requires.1 _ _ e c.step.ensures.0 c.step.ensures.1)

pub returns-in-Preempt : goal.returns-in-Preempt
returns-in-Preempt c = rw c.in-Preempt.is (preempt-turns _ _ _ c.args.x _ _ c.requires.1 _ c.preempt.ensures)

pub step-requires : goal.step-requires
step-requires c =
    let e = c.span_at-s.ensures in
    record {
      runs = c.requires.0;
      inside = runs-inside c.requires.0 c.requires.1 _ e c.requires.2;
      here = placed-is (runs-placed c.requires.0) c.requires.1 _ _ e c.point_at-y.ensures;
    }

pub preempt-requires : goal.preempt-requires
preempt-requires c =
    (runs-inside c.requires.0 c.requires.1 _ c.span_at-s.ensures c.requires.2, c.requires.0.on, runs-good c.requires.0 c.requires.1)

pub point_at-y-requires : goal.point_at-y-requires
point_at-y-requires c =
    let k = runs-placed c.requires.0 in
    (placed-point k c.requires.1 _ c.span_at-s.ensures, (placed-few k c.requires.1).1)

pub overflow_add-s : goal.overflow_add-s
overflow_add-s c =
    let l = placed-point (runs-placed c.requires.0) c.requires.1 _ c.span_at-s.ensures in omega arith

pub span_at-s-requires : goal.span_at-s-requires
span_at-s-requires c = placed-few (runs-placed c.requires.0) c.requires.1
