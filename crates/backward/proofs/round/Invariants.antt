-- One point a turn, from the last to the first.
use Rattle.model.specs.Walk.{leads}
use Rattle.tables.specs.Tables.{func_in}
use Rattle.backward.specs.Rounds.{Round}
use Rattle.backward.proofs.round.Given as goal

abbrev pub invariant-loop-p : goal.invariant-loop-p
invariant-loop-p l =
    Round (leads (func_in l.flow.work.now l.flow.span)) l.flow.gens.now l.flow.kills.now l.flow.span.size l.p l.initial.sets l.changed l.sets
