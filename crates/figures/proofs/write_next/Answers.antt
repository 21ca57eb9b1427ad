-- The kept column has what is kept at each ensure.
use Rattle.std.proofs.Common.{rules}
use Rattle.problems.proofs.Laws.{filled-as}
use native.Mathlib.Omega.{arith}
use Rattle.figures.specs.Steps.{Next}
use Rattle.figures.proofs.Points.{turn-fits, turn-values, kept-blocks, of-next}
use Rattle.figures.proofs.Stages.{turn-of, worked-put}
use Rattle.figures.proofs.write_next.Goals as goal

pub returns : goal.returns
returns c =
    let a = turn-of c.requires c.span_at-s.ensures in
    worked-put Next a (of-next a (omega arith) (filled-as (λ p v i e. search rules) c.each_point.ensures) c.next_points.ensures.0) c.put_points.ensures

pub invariant_of-points : goal.invariant_of-points
invariant_of-points c =
    let v = turn-values (turn-of c.requires c.span_at-s.ensures) in
    record { lies = v.0; room = v.1 }

pub each_point-requires : goal.each_point-requires
each_point-requires c =
    let v = turn-values (turn-of c.requires c.span_at-s.ensures) in
    (λ p h. search rules, omega (arith, v.3))

pub invariant_of-func : goal.invariant_of-func
invariant_of-func c = record { fits = turn-fits (turn-of c.requires c.span_at-s.ensures) }

pub next_points-requires : goal.next_points-requires
next_points-requires c =
    let i = turn-fits (turn-of c.requires c.span_at-s.ensures) in
    let n = i.small in (
      kept-blocks c.args.work.now c.span_at-s.result i.frame (filled-as (λ p v i e. search rules) c.each_point.ensures),
      record { of_gens = omega arith; of_kills = omega arith; of_sets = omega arith },
      omega arith,
    )
