-- The loop meets the callees from the last point to the first.
use Rattle.displace.proofs.Callees.{Seen}
use Rattle.displace.proofs.callee_range.Given as goal

abbrev pub invariant-loop-p : goal.invariant-loop-p
invariant-loop-p l = Seen l.work l.s l.p l.range
