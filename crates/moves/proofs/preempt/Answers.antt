-- Both halves, by the figures of the point, and the sheet allows the cost.
use native.Mathlib.Omega.{arith}
use Rattle.columns.specs.Columns.{dead_column, need_column}
use Rattle.bounds.specs.Bounds.{cost_bounds}
use Rattle.machine.proofs.Kept.{written-few}
use Rattle.moves.proofs.Laws.{preempt-does, read-inside, dead-inside, need-inside, cost-inside}
use Rattle.moves.proofs.preempt.Goals as goal

pub moves_price-cost-requires : goal.moves_price-cost-requires
moves_price-cost-requires c =
    let p = c.requires in
    let d = c.preempt-moved.ensures in
    (p.0.bounded.readable.small, omega (arith, d.out, written-few _ p.2, p.2.fits, p.1.few), omega (arith, d.back, p.2.fits, p.1.few))

pub returns : goal.returns
returns c =
    let k = c.requires.0 in
    preempt-does _ c.args.h c.args.x _ _ _ _ _ k.some _ _ (dead-inside k c.figure_at-dead.ensures) (need-inside k c.figure_at-need.ensures)
    (cost-inside k c.figure_at-bound.ensures) c.moves_price-cost.ensures c.added.ensures c.added-2.ensures c.preempt-moved.ensures

pub figure_at-dead-requires : goal.figure_at-dead-requires
figure_at-dead-requires c = read-inside c.requires.0 dead_column (omega arith)

pub figure_at-need-requires : goal.figure_at-need-requires
figure_at-need-requires c = read-inside c.requires.0 need_column (omega arith)

pub figure_at-bound-requires : goal.figure_at-bound-requires
figure_at-bound-requires c = read-inside c.requires.0 cost_bounds (omega arith)
