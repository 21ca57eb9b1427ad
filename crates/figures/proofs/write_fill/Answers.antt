-- One column more of the function.
use Rattle.std.proofs.Common.{rules}
use Rattle.problems.proofs.Laws.{filled-as}
use native.Mathlib.Omega.{arith}
use Rattle.figures.specs.Steps.{Fill}
use Rattle.figures.proofs.Points.{turn-values, of-fill}
use Rattle.figures.proofs.Stages.{turn-of, put-room, worked-put}
use Rattle.figures.proofs.write_fill.Goals as goal

pub returns : goal.returns
returns c =
    let a = turn-of c.requires c.span_at-s.ensures in
    worked-put Fill a (of-fill a (filled-as (λ p v i e. search rules) c.each_point.ensures)) c.put_points.ensures

pub invariant_of-points : goal.invariant_of-points
invariant_of-points c =
    let v = turn-values (turn-of c.requires c.span_at-s.ensures) in
    record { lies = v.0; room = v.1 }

pub each_point-requires : goal.each_point-requires
each_point-requires c =
    let v = turn-values (turn-of c.requires c.span_at-s.ensures) in
    (λ p h. search rules, omega (arith, v.3))

pub put_points-requires : goal.put_points-requires
put_points-requires c =
    let a = turn-of c.requires c.span_at-s.ensures in
    (put-room Fill a, omega (arith, (turn-values a).3))
