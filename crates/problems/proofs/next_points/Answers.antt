-- The figure is read off the set of each point.
use native.Mathlib.Omega.{arith}
use Rattle.bits.specs.Bits.{Top}
use Rattle.problems.proofs.Laws.{filled-as, filled-front}
use Rattle.problems.proofs.Figures.{next-read}
use Rattle.problems.proofs.next_points.Goals as goal

pub returns : goal.returns
returns c =
    let a = c.solve.ensures in
    (filled-as (next-read _ _ c.args.func.fits c.requires.0 a.0) (filled-front Top _ (omega arith) c.each_set.ensures), a.1)
