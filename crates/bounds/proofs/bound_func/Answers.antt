-- One point a turn; then the spill of the function.
use native.Mathlib.Omega.{arith}
use mathlib.Core.Path.{ap}
use lib.ListN.{length-set}
use Rattle.model.specs.Sheet.{PointSheet}
use Rattle.readout.specs.declared.FuncFigures.{FuncFigures}
use Rattle.readout.specs.Readable.{func_figures}
use Rattle.tables.specs.declared.Span.{Span}
use Rattle.columns.proofs.Writes.{changed-on}
use Rattle.bounds.proofs.Laws.{only-span, point-room, point-more, func-more}
use Rattle.bounds.proofs.bound_func.Goals as goal

pub bounds-work-s : goal.bounds-work-s
bounds-work-s c =
    let x = c.loop-p.invariant in
    let e = only-span x.bounded.readable c.requires.1 x.only c.span_at-s.ensures in
    omega (arith, point-room x.bounded.readable c.requires.1 e c.loop-p-test.true)

pub bounds-work-s-in-loop-p : goal.bounds-work-s-in-loop-p
bounds-work-s-in-loop-p c =
    let x = c.loop-p.invariant in
    let e = only-span x.bounded.readable c.requires.1 x.only c.span_at-s.ensures in
    simp length-set (point-room x.bounded.readable c.requires.1 e c.loop-p-test.true)

pub loop-p-preserved : goal.loop-p-preserved
loop-p-preserved c =
    let x = c.loop-p.invariant in
    let e = only-span x.bounded.readable c.requires.1 x.only c.span_at-s.ensures in
    let point = c.point-point.ensures in
    let r =
    point-more x.bounded c.requires.1 e c.loop-p-test.true (omega (arith, ap (λ (x : PointSheet). x.cost) point))
    (ap (λ (x : PointSheet). x.fill) point) in
    record { bounded = r.0; only = changed-on x.only r.1 }

pub returns : goal.returns
unfolding func_figures
returns c =
    let x = c.loop-p.invariant in
    let e = only-span x.bounded.readable c.requires.1 x.only c.span_at-s.ensures in
    let size = ap (λ (s : Span). s.size) e in
    let r = func-more x.bounded c.requires.1 (omega (arith, size)) (ap (λ (x : FuncFigures). x.spill) c.func-func.ensures) in
    (r.0, changed-on x.only r.1)
