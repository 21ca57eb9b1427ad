-- The loop goes from the last function to the first.
use Prim.Native.Nat.{◌-◌}
use native.Mathlib.Omega.{arith}
use mathlib.Core.Path.{sym}
use Rattle.levels.specs.Levels.{level_in, shortest_in}
use Rattle.levels.proofs.Laws.{within_none, within_in, within-out}
use Rattle.levels.proofs.largest_within.Goals as goal

pub loop-g-init : goal.loop-g-init
loop-g-init c =
    let a = c.args in
    (omega arith, sym (within_none (level_in a.work.now) (shortest_in a.work.now) a.n a.level))

pub loop-g-preserved-then-work-g : goal.loop-g-preserved-then-work-g
loop-g-preserved-then-work-g c =
    let a = c.args in
    let l = c.loop-g in (
      omega arith,
      within_in (level_in a.work.now) (shortest_in a.work.now) a.n a.level (l.g - 1) (omega arith) (omega arith) (omega arith) l.invariant.1
          (omega arith),
    )

pub loop-g-preserved : goal.loop-g-preserved
loop-g-preserved c =
    let a = c.args in
    let l = c.loop-g in
    (omega arith, within-out (level_in a.work.now) (shortest_in a.work.now) a.n a.level (l.g - 1) (omega arith) (omega arith) (omega arith) l.invariant.1)
