-- One column more of the function.
use Rattle.figures.specs.Steps.{Dead}
use Rattle.figures.proofs.Points.{turn-fits, of-dead}
use Rattle.figures.proofs.Stages.{turn-of, worked-put}
use Rattle.figures.proofs.write_dead.Goals as goal

pub returns : goal.returns
returns c =
    let a = turn-of c.requires c.span_at-s.ensures in
    worked-put Dead a (of-dead a c.dead_points.ensures.0) c.put_points.ensures

pub invariant_of-func : goal.invariant_of-func
invariant_of-func c = record { fits = turn-fits (turn-of c.requires c.span_at-s.ensures) }
