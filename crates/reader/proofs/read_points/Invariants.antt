-- The answer is that of what is left after the points so far.
use Prim.Native.Nat.{◌-◌}
use lib.ListN.{length}
use Rattle.reader.proofs.Laws.{Body}
use Rattle.reader.proofs.read_points.Given as goal

abbrev pub invariant-loop-x : goal.invariant-loop-x
invariant-loop-x l = Body l.text l.initial.work l.initial.part l.at l.work l.a l.part

abbrev pub decreases-loop-x : goal.decreases-loop-x
decreases-loop-x l = length l.text - l.a
