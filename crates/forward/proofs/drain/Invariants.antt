-- Every visit costs, and leaves the worklist right.
use Prim.Native.Nat.{◌+◌}
use Rattle.model.specs.Walk.{leads}
use Rattle.tables.specs.Tables.{func_in}
use Rattle.forward.specs.Visits.{progress_of, Visits, Onward}
use Rattle.forward.proofs.Steps.{cost, in-hand, Preserved}
use Rattle.forward.proofs.drain.Given as goal

abbrev pub invariant-loop-last : goal.invariant-loop-last
invariant-loop-last l =
    Onward
    (λ y.
    Visits (leads (func_in l.flow.work.now l.flow.span)) l.flow.gens.now l.flow.kills.now
    (progress_of l.fn.sets l.fn.state l.fn.list.points l.fn.list.count) y
    × Preserved l.flow.span.size (progress_of l.fn.sets l.fn.state l.fn.list.points l.fn.list.count) y)
    (progress_of l.sets l.state l.list.points l.list.count) l.last

abbrev pub decreases-loop-last : goal.decreases-loop-last
decreases-loop-last l = cost l.flow.span.size (progress_of l.sets l.state l.list.points l.list.count) + in-hand l.last
