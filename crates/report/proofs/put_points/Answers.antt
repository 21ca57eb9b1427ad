-- One point a turn.
use native.Mathlib.Omega.{arith}
use mathlib.Core.Path.{◌≡◌, ap}
use Rattle.tables.specs.declared.Span.{Span}
use Rattle.tables.specs.Tables.{size_at}
use Rattle.report.specs.Report.{point_part}
use Rattle.report.proofs.Laws.{none-added, next-added, next-has-room, next-sum}
use Rattle.report.proofs.put_points.Goals as goal

pub loop-p-init : goal.loop-p-init
loop-p-init g c =
    let s = c.args.sheet in
    none-added g.met.S.Sink.laws (point_part s.price s.work.now s.header c.args.f) _ (omega (arith, c.requires.1.bytes))

pub put_point-total-requires : goal.put_point-total-requires
put_point-total-requires g c =
    let s = c.args.sheet in
    let part = point_part s.price s.work.now s.header c.args.f in
    let size = ap (λ (s : Span). s.size) c.span_at-p-end.ensures in
    let l = c.loop-p in (
      c.requires.0,
      omega (arith, size),
      next-has-room g.met.S.Sink.laws part l.p (size_at s.work.now c.args.f) (omega (arith, size)) c.requires.1 l.invariant,
    )

pub overflow_add-total : goal.overflow_add-total
overflow_add-total g c =
    let s = c.args.sheet in
    let part = point_part s.price s.work.now s.header c.args.f in
    let size = ap (λ (s : Span). s.size) c.span_at-p-end.ensures in
    let l = c.loop-p in
    omega (
      arith,
      next-sum g.met.S.Sink.laws part l.p (size_at s.work.now c.args.f) (omega (arith, size)) c.requires.1 l.invariant c.put_point-total.ensures,
    )

pub loop-p-preserved : goal.loop-p-preserved
loop-p-preserved g c =
    let s = c.args.sheet in
    next-added g.met.S.Sink.laws (point_part s.price s.work.now s.header c.args.f) c.loop-p.p (omega arith) c.loop-p.invariant c.put_point-total.ensures

pub returns : goal.returns
returns g c =
    let e : c.loop-p.p ≡ size_at c.args.sheet.work.now c.args.f = omega (arith, ap (λ (s : Span). s.size) c.span_at-p-end.ensures) in
    rw e at c.loop-p.invariant
