-- The loop lifts one function a turn.
use Rattle.levels.proofs.Laws.{Lifting}
use Rattle.levels.proofs.lift_levels.Given as goal

abbrev pub invariant-loop-g : goal.invariant-loop-g
invariant-loop-g l = Lifting l.m l.g l.v l.initial.work l.work
