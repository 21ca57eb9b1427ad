-- The points of the function, and then what it brings to those that it calls.
use Rattle.columns.proofs.Writes.{changed-on}
use Rattle.figures.proofs.Stages.{points-columns, chained-kept}
use Rattle.figures.proofs.figure_func.Goals as goal

pub raise_callees-requires : goal.raise_callees-requires
raise_callees-requires c =
    let k = c.requires.0 in
    let w = c.write_figures.ensures in
    (w.0, chained-kept _ k.worked.ready w.1 k.chained, k.small)

pub returns : goal.returns
returns c =
    let r = c.raise_callees.ensures in
    let w = c.write_figures.ensures in
    (r.0, changed-on (points-columns w.1) r.1)
