-- The cuts are what the callees leave of the cache.
use Rattle.std.proofs.Common.{rules}
use Rattle.problems.proofs.Laws.{filled-as}
use native.Mathlib.Omega.{arith}
use Rattle.figures.specs.Steps.{High}
use Rattle.figures.proofs.Points.{turn-fits, turn-values, turn-entry, turn-reached, cut-blocks, of-high}
use Rattle.figures.proofs.Stages.{turn-of, worked-put}
use Rattle.figures.proofs.write_high.Goals as goal

pub returns : goal.returns
returns c =
    let a = turn-of c.requires c.span_at-s.ensures in
    worked-put High a (of-high a (filled-as (λ p v i e. search rules) c.each_point.ensures) c.min-start.ensures c.high_points.ensures.0) c.put_points.ensures

pub invariant_of-points : goal.invariant_of-points
invariant_of-points c =
    let v = turn-values (turn-of c.requires c.span_at-s.ensures) in
    record { lies = v.0; room = v.1 }

pub each_point-requires : goal.each_point-requires
each_point-requires c =
    let v = turn-values (turn-of c.requires c.span_at-s.ensures) in
    (λ p h. search rules, omega (arith, v.3))

pub overflow_add-work : goal.overflow_add-work
overflow_add-work c =
    let a = turn-of c.requires c.span_at-s.ensures in
    omega (arith, turn-entry a, (turn-fits a).frame)

pub invariant_of-func : goal.invariant_of-func
invariant_of-func c = record { fits = turn-fits (turn-of c.requires c.span_at-s.ensures) }

pub high_points-requires : goal.high_points-requires
high_points-requires c =
    let a = turn-of c.requires c.span_at-s.ensures in
    let stack = a.begun.worked.ready.settled.formed.shaped.stack_high in
    let n = (turn-fits a).small in (
      cut-blocks c.args.work.now c.args.h c.span_at-s.result stack (filled-as (λ p v i e. search rules) c.each_point.ensures),
      omega (arith, c.min-start.ensures, stack),
      turn-reached a,
      record { of_gens = omega arith; of_kills = omega arith; of_sets = omega arith },
      search rules,
      omega arith,
    )
