-- The loop works out the figures of one function a turn.
use Rattle.columns.specs.Columns.{OnlyColumns}
use Rattle.figures.specs.Steps.{Done}
use Rattle.figures.proofs.figure_funcs.Given as goal

abbrev pub invariant-loop-f : goal.invariant-loop-f
invariant-loop-f l = Done l.price l.work l.h l.f × OnlyColumns l.initial.work l.work
