-- One column more of the function.
use Rattle.figures.specs.Steps.{Need}
use Rattle.figures.proofs.Points.{turn-fits, of-need}
use Rattle.figures.proofs.Stages.{turn-of, worked-put}
use Rattle.figures.proofs.write_need.Goals as goal

pub returns : goal.returns
returns c =
    let a = turn-of c.requires c.span_at-s.ensures in
    worked-put Need a (of-need a c.need_points.ensures.0) c.put_points.ensures

pub invariant_of-func : goal.invariant_of-func
invariant_of-func c = record { fits = turn-fits (turn-of c.requires c.span_at-s.ensures) }
