-- What the kernel solves is what the walks of the function meet.
use Rattle.problems.proofs.Figures.{answered}
use Rattle.problems.proofs.solve.Goals as goal

pub returns : goal.returns
returns c =
    let f = c.fill.ensures in
    let n = c.new.ensures in
    let k = rw (n.0, n.1, n.2, n.3) at c.backward.ensures in
    (answered _ _ c.args.func.fits _ _ f.0 f.1 k.0, record { of_gens = f.0.kept; of_kills = f.1.kept; of_sets = k.1 })
