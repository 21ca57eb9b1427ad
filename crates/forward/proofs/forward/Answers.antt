-- The number of one more state is written.
use native.Mathlib.Omega.{arith}
use lib.ListN.{get_or}
use Rattle.worklist.specs.declared.Visit.TheVariants.{Unseen}
use Rattle.worklist.proofs.Laws.{written_as}
use Rattle.forward.proofs.Theory.{coded_more}
use Rattle.forward.proofs.forward.Goals as goal

pub loop-p-preserved : goal.loop-p-preserved
loop-p-preserved c =
    let v = written_as (get_or c.solve.new.state c.loop-p.p Unseen) in
    coded_more _ c.loop-p.state c.loop-p.p _ (omega arith) (omega (arith, v)) c.loop-p.invariant
