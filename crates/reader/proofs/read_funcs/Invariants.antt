-- The answer is that of what is left after the functions in the tables.
use Prim.Native.Nat.{◌-◌}
use lib.ListN.{length}
use Rattle.reader.specs.Reading.{after_stack}
use Rattle.reader.proofs.Laws.{FuncsRead}
use Rattle.reader.proofs.read_funcs.Given as goal

abbrev pub invariant-loop-at : goal.invariant-loop-at
invariant-loop-at l = FuncsRead (after_stack l.text l.stack l.a) l.text l.initial.work l.work l.at l.h

abbrev pub decreases-loop-at : goal.decreases-loop-at
decreases-loop-at l = length l.text - l.at.byte
