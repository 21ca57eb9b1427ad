-- The loop goes from the last function to the first: the callees of each have D and d.
use Rattle.columns.specs.Columns.{OnlyColumns}
use Rattle.displace.specs.Ordered.{Ordered}
use Rattle.displace.proofs.displacements.Given as goal

abbrev pub invariant-loop-f : goal.invariant-loop-f
invariant-loop-f l = Ordered l.work l.h l.f × OnlyColumns l.initial.work l.work
