-- The loop counts from the last function to the first.
use Prim.Native.Nat.{◌-◌}
use native.Mathlib.Omega.{arith}
use mathlib.Core.Path.{sym}
use Rattle.levels.specs.Levels.{shortest_in}
use Rattle.levels.proofs.Laws.{level-none, level-turn, level-most}
use Rattle.levels.proofs.level_among.Goals as goal

pub loop-g-init : goal.loop-g-init
loop-g-init c =
    let a = c.args in
    (omega arith, sym (level-none (shortest_in a.work.now) a.n a.v))

pub loop-g-preserved : goal.loop-g-preserved
loop-g-preserved c =
    let a = c.args in
    let l = c.loop-g in
    (omega arith, level-turn (shortest_in a.work.now) a.n a.v (l.g - 1) (omega arith) (omega arith) l.invariant.1 c.raised-level.ensures)

pub raised-level-requires : goal.raised-level-requires
raised-level-requires c = omega (arith, level-most (shortest_in c.args.work.now) c.args.n c.args.v c.loop-g.g)
