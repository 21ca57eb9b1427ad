-- The loop works out one function a turn.
use Rattle.bounds.specs.Bounds.{BoundedTo, OnlyBounds}
use Rattle.bounds.proofs.bound_task.Given as goal

abbrev pub invariant-loop-f : goal.invariant-loop-f
invariant-loop-f l = record {
  bounded : BoundedTo l.price l.work l.header l.f;
  only : OnlyBounds l.initial.work l.work;
}
