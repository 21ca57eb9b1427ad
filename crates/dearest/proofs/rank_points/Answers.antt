-- One point a turn.
use native.Mathlib.Omega.{arith}
use mathlib.Core.Path.{◌≡◌, ap, ◌∙◌}
use Rattle.model.specs.Basic.{count_from}
use Rattle.model.specs.Sheet as sheet
use Rattle.tables.specs.declared.Span.{Span}
use Rattle.tables.specs.Tables.{size_at}
use Rattle.readout.specs.View.{sheet_of}
use Rattle.readout.proofs.Limits.{figures-low, size-low}
use Rattle.ranks.proofs.Laws.{best_none}
use Rattle.dearest.specs.Ranking.{rank_of, point_ranks}
use Rattle.dearest.proofs.Laws.{points-more, taken_more}
use Rattle.dearest.proofs.rank_points.Goals as goal

pub loop-p-init : goal.loop-p-init
unfolding count_from
loop-p-init c = best_none c.args.ranks.now.places c.args.ranks.now.ten

pub rank_with-rank-requires : goal.rank_with-rank-requires
rank_with-rank-requires c =
    let k = c.args.sheet.readable in
    let size = ap (λ (s : Span). s.size) c.span_at-p-end.ensures in
    let save = ap (λ (x : sheet.PointSheet). x.save) c.point.ensures in (
      omega (arith, c.requires, k.settled.holds.few),
      omega (arith, size, size-low k c.args.f c.requires),
      omega (arith, save, (figures-low k c.args.f c.requires c.loop-p.p (omega (arith, size))).save),
    )

pub loop-p-preserved : goal.loop-p-preserved
loop-p-preserved c =
    let a = c.args in
    let l = c.loop-p in
    let t = sheet_of a.sheet in
    let rank =
    c.rank_with-rank.ensures ∙ ap (λ (x : sheet.PointSheet). rank_of (record { fn = a.f; at = l.p; figures = x })) c.point.ensures in
    taken_more a.ranks.now.places (point_ranks t a.f l.p) _ l.invariant (rw rank at c.take_in.ensures) (points-more t a.f l.p)

pub returns : goal.returns
returns c =
    let e : c.loop-p.p ≡ size_at c.args.sheet.work.now c.args.f = omega (arith, ap (λ (s : Span). s.size) c.span_at-p-end.ensures) in
    rw e at c.loop-p.invariant
