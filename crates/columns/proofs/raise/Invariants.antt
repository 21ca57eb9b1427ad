-- The loop raises the number of one callee a turn.
use Rattle.columns.proofs.Raises.{Raising}
use Rattle.columns.proofs.raise.Given as goal

abbrev pub invariant-loop-p : goal.invariant-loop-p
invariant-loop-p l = Raising l.at l.s l.values l.p l.initial.work l.work
