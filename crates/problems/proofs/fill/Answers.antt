-- The loop fills the gens and the kills of one point a turn.
use Rattle.std.proofs.Common.{rules}
use native.Mathlib.Omega.{arith}
use mathlib.Core.Path.{◌≡◌}
use Rattle.tables.specs.Tables.{item}
use Rattle.problems.proofs.Laws.{filled_more}
use Rattle.problems.proofs.fill.Goals as goal

pub loop-p-preserved : goal.loop-p-preserved
loop-p-preserved c =
    let a : c.unwrap_or-a.result ≡ item c.args.column.now c.loop-p.p = search rules in
    let d = c.effect_of-e.ensures in
    let x = c.point in
    let l = c.loop-p in
    let g = c.gens_of in
    let k = c.kills_of in (
      filled_more _ l.gens l.p g.result (omega arith) (rw (← a, ← x.ensures.there) (g.ensures x.result d)) l.invariant.0,
      filled_more _ l.kills l.p k.result (omega arith) (rw (← a, ← x.ensures.there) (k.ensures x.result _ d)) l.invariant.1,
    )
