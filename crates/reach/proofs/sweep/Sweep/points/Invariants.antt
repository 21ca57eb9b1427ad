-- Every turn keeps what is known of the points before p, and of the set that comes to p.
use Rattle.tables.specs.Tables.{func_in}
use Rattle.reach.proofs.Theory.{Sweeping}
use Rattle.reach.proofs.sweep.Sweep.points.Given as goal

abbrev pub invariant-loop-p : goal.invariant-loop-p
invariant-loop-p l =
    Sweeping (func_in l.func.work.now l.func.span) l.func.span.size l.initial.carried l.mark l.p l.carried l.self.sets l.self.marks
