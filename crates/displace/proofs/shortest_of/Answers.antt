-- The lowest level of the walks gives d; a function that calls nothing has its frame.
use Rattle.std.proofs.Common.{rules}
use native.Mathlib.Omega.{arith}
use Rattle.problems.proofs.Laws.{filled-as}
use Rattle.columns.proofs.Limits.{shortest-low}
use Rattle.displace.proofs.Displaces.{ordered-fits, ordered-calls, leaf-here, levels-low, shortest-here}
use Rattle.displace.proofs.shortest_of.Goals as goal

pub returns-in_default : goal.returns-in_default
returns-in_default c =
    let a = c.requires in
    leaf-here a.0 a.1 a.2 (rw c.in_default.is at a.3)

pub invariant_of-points : goal.invariant_of-points
invariant_of-points c =
    let a = c.requires in
    let r = ordered-calls a.0 a.1 a.2 in
    record { lies = r.0; room = r.1 }

pub each_point-requires : goal.each_point-requires
each_point-requires c =
    let a = c.requires in
    (λ p h. search rules, omega (arith, (ordered-fits a.0 a.1 a.2).small))

pub invariant_of-lowest_level : goal.invariant_of-lowest_level
invariant_of-lowest_level c =
    let a = c.requires in
    record { fits = ordered-fits a.0 a.1 a.2 }

pub lowest_level-level-requires : goal.lowest_level-level-requires
lowest_level-level-requires c =
    let a = c.requires in
    let f = (ordered-fits a.0 a.1 a.2).small in (
      levels-low a.0 a.1 a.2 (filled-as (λ p v h e. search rules) c.each_point.ensures),
      record { of_gens = omega arith; of_kills = omega arith; of_sets = omega arith },
    )

pub returns : goal.returns
returns c =
    let a = c.requires in
    let k = rw c.in-Some.is at a.3 in
    shortest-here a.0 a.1 a.2 (filled-as (λ p v h e. search rules) c.each_point.ensures) k.least c.lowest_level-level.ensures.0 c.called_least.ensures

pub overflow_add-result : goal.overflow_add-result
overflow_add-result c =
    let a = c.requires in
    let k = rw c.in-Some.is at a.3 in
    omega (
      arith,
      shortest-here a.0 a.1 a.2 (filled-as (λ p v h e. search rules) c.each_point.ensures) k.least c.lowest_level-level.ensures.0 c.called_least.ensures,
      shortest-low a.0.displacing.ready.settled.formed.shaped c.args.f,
    )
