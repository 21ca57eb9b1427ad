-- The line that opens the function, and then those of its points.
use native.Mathlib.Omega.{arith}
use mathlib.Core.Path.{refl, ap}
use lib.ListN.{length}
use Rattle.tables.specs.Tables.{size_at}
use Rattle.report.specs.Report.{head_part, points_part}
use Rattle.report.proofs.Laws.{adds-both, room-first, room-second, func-parts}
use Rattle.report.proofs.put_func.Goals as goal

pub put_line-requires : goal.put_line-requires
put_line-requires g c =
    let s = c.args.sheet in
    let w = s.work.now in
    let f = c.args.f in
    let room =
    room-first g.met.S.Sink.laws (head_part s.price w s.header f) (points_part s.price w s.header f (size_at w f))
    (rw (func-parts s.price w s.header f c.requires.0) at c.requires.1) in
    omega (arith, room.bytes, ap length c.func_numbers.ensures.0)

pub put_points-requires : goal.put_points-requires
put_points-requires g c =
    let s = c.args.sheet in
    let w = s.work.now in
    let f = c.args.f in (
      c.requires.0,
      room-second g.met.S.Sink.laws (head_part s.price w s.header f) (points_part s.price w s.header f (size_at w f))
          (rw (func-parts s.price w s.header f c.requires.0) at c.requires.1)
          (rw c.func_numbers.ensures.0 at c.put_line.ensures),
    )

pub returns : goal.returns
returns g c =
    let s = c.args.sheet in
    let w = s.work.now in
    let f = c.args.f in
    rw (func-parts s.price w s.header f c.requires.0)
    (adds-both g.met.S.Sink.laws (head_part s.price w s.header f) (points_part s.price w s.header f (size_at w f)) (omega arith)
    (record { put = rw c.func_numbers.ensures.0 at c.put_line.ensures; sum = refl }) c.put_points.ensures)
