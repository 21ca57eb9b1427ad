-- The functions before f are clean, and no mark is above f.
use Rattle.reach.specs.Reach.{CleanBefore}
use Rattle.reach.specs.Sweep.{Most}
use Rattle.reach.proofs.sweep.clean_funcs.Given as goal

abbrev pub invariant-loop-f : goal.invariant-loop-f
invariant-loop-f l = Most l.f l.sweep.marks × CleanBefore l.linked.task.work.now l.linked.task.header l.f
