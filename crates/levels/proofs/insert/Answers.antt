-- The level is counted before the functions behind f are lifted: both are about d, which neither changes.
use native.Mathlib.Omega.{arith}
use Rattle.levels.proofs.Laws.{inserted}
use Rattle.levels.proofs.insert.Goals as goal

pub returns : goal.returns
returns c =
    let r = c.requires.0 in
    let l = c.lift_levels.ensures in
    inserted c.args.f c.args.n (omega (arith, r.order, r.few)) (omega (arith, r.order, r.few, r.long, l.changed.size))
    c.level_among-level.ensures l
