-- The states of the points before p are written as numbers.
use Rattle.forward.proofs.Theory.{Coded}
use Rattle.forward.proofs.forward.Given as goal

abbrev pub invariant-loop-p : goal.invariant-loop-p
invariant-loop-p l = Coded l.visits l.p l.initial.state l.state
