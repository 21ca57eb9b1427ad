-- The line is that of the figures, and the cost is one of them.
use native.Mathlib.Omega.{arith}
use mathlib.Core.Path.{ap}
use lib.ListN.{length}
use Rattle.model.specs.Sheet.{PointSheet}
use Rattle.readout.proofs.Limits.{size-low}
use Rattle.report.proofs.Limits.{sums-read}
use Rattle.report.proofs.Laws.{point-line}
use Rattle.report.proofs.put_point.Goals as goal

pub point_numbers-numbers-requires : goal.point_numbers-numbers-requires
point_numbers-numbers-requires g c =
    let k = c.args.sheet.readable in (
      omega (arith, size-low k c.args.f c.requires.0, c.requires.1),
      sums-read k c.requires.0 c.args.p c.requires.1 c.point-point.ensures,
    )

pub put_line-requires : goal.put_line-requires
put_line-requires g c =
    let line = point-line c.args.sheet.price c.args.f c.point-point.ensures c.point_numbers-numbers.ensures c.shown.ensures in
    omega (arith, ap length line, c.requires.2.bytes)

pub returns : goal.returns
returns g c =
    let line = point-line c.args.sheet.price c.args.f c.point-point.ensures c.point_numbers-numbers.ensures c.shown.ensures in
    record {
      put = rw line at c.put_line.ensures;
      sum = omega (arith, ap (λ (x : PointSheet). x.cost) c.point-point.ensures);
    }
