-- Rounds until one changes nothing.
use Rattle.model.specs.Walk.{leads}
use Rattle.tables.specs.Tables.{func_in}
use Rattle.tables.specs.Valid.{Kept}
use Rattle.backward.specs.Rounds.{cost, Right}
use Rattle.backward.proofs.backward.Given as goal

abbrev pub invariant-loop : goal.invariant-loop
invariant-loop l =
    Right (leads (func_in l.flow.work.now l.flow.span)) l.flow.gens.now l.flow.kills.now l.flow.span.size l.sets
    × Kept l.flow.span.size l.initial.sets l.sets

abbrev pub decreases-loop : goal.decreases-loop
decreases-loop l = cost l.flow.span.size l.sets
