-- The loop's invariant: what the sheet allows is worked out for the first p points of the function.
use Rattle.bounds.specs.Bounds.{OnlyBounds}
use Rattle.bounds.proofs.Laws.{BoundedIn}
use Rattle.bounds.proofs.bound_func.Given as goal

abbrev pub invariant-loop-p : goal.invariant-loop-p
invariant-loop-p l = record {
  bounded : BoundedIn l.price l.work l.header l.f l.p;
  only : OnlyBounds l.initial.work l.work;
}
