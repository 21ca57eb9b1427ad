-- The callees have one caller more.
use Rattle.std.proofs.Common.{rules}
use native.Mathlib.Omega.{arith}
use Rattle.problems.proofs.Laws.{filled-as}
use Rattle.figures.proofs.Points.{turn-values}
use Rattle.figures.proofs.Stages.{turn-of, own-chain, done-raised}
use Rattle.figures.proofs.raise_callees.Goals as goal

pub invariant_of-points : goal.invariant_of-points
invariant_of-points c =
    let v = turn-values (turn-of c.requires.0 c.span_at-s.ensures) in
    record { lies = v.0; room = v.1 }

pub each_point-requires : goal.each_point-requires
each_point-requires c =
    let k = c.requires in
    let v = turn-values (turn-of k.0 c.span_at-s.ensures) in
    let frame = v.2 in
    let small = k.2 in
    let own = own-chain _ k.2 k.0 k.1 in
    (λ p h. search rules, omega (arith, v.3))

pub each_point-requires-2 : goal.each_point-requires-2
each_point-requires-2 c =
    let v = turn-values (turn-of c.requires.0 c.span_at-s.ensures) in
    (λ p h. search rules, omega (arith, v.3))

pub raise-requires : goal.raise-requires
raise-requires c =
    let v = turn-values (turn-of c.requires.0 c.span_at-s.ensures) in
    (v.0, v.1, omega arith, omega arith, omega (arith, v.3))

pub raise-requires-2 : goal.raise-requires-2
raise-requires-2 c =
    let v = turn-values (turn-of c.requires.0 c.span_at-s.ensures) in
    let z = c.raise.ensures.changed.size in
    (record { room = omega (arith, z, v.1); within = v.0.within }, omega (arith, z, v.1), omega arith, omega arith, omega (arith, v.3))

pub returns : goal.returns
returns c =
    let p = c.requires in
    let a = turn-of p.0 c.span_at-s.ensures in
    done-raised _ p.2 a p.1 c.raise.ensures c.raise-2.ensures (filled-as (λ p v i e. search rules) c.each_point.ensures)
    (filled-as (λ p v i e. search rules) c.each_point-2.ensures)
