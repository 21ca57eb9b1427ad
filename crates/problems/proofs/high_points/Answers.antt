-- The figure is read off the set of each point.
use native.Mathlib.Omega.{arith}
use Rattle.bits.specs.Bits.{Top}
use Rattle.problems.proofs.Laws.{filled-as, filled-front}
use Rattle.problems.proofs.Figures.{high_read}
use Rattle.problems.proofs.high_points.Goals as goal

pub returns : goal.returns
returns c =
    let low = c.low_bits.ensures in
    let f = c.fill.ensures in
    let i = c.requires in
    let n = c.new-flow.ensures in
    let k = rw (n.0, n.1, n.2, n.3) at c.forward.ensures in (
      filled-as
          (λ p v h top t g e r. high_read _ _ c.args.func.fits _ _ _ low f.0 f.1 t g e r i.1 i.2 k.0 p v h top)
          (filled-front Top _ (omega arith) c.each_set.ensures),
      record { of_gens = f.0.kept; of_kills = f.1.kept; of_sets = k.1 },
      k.2,
    )
