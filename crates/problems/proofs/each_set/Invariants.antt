-- The numbers of the sets before p are read off.
use Rattle.tables.specs.Tables.{item}
use Rattle.problems.specs.Problems.{Filled}
use Rattle.problems.proofs.each_set.Given as goal

abbrev pub invariant-loop-p : goal.invariant-loop-p
invariant-loop-p g l = Filled (λ q v. goal.F-post g l.number (item l.sets q) v) l.p l.initial.out l.out
