-- The columns have the figures of the point, which are priced.
use native.Mathlib.Omega.{arith}
use mathlib.Core.Path.{ap, refl}
use Rattle.prices.specs.Prices.{price_of}
use Rattle.columns.specs.Columns.{high_column, dead_column, need_column, next_column, fill_column}
use Rattle.readout.proofs.Read.{within-there, read-there, figures-are}
use Rattle.readout.proofs.Sheet.point.Goals as goal

pub returns : goal.returns
returns c =
    let a = c.requires in
    let e = c.span_at-s.ensures in
    let k = c.args.self.readable in
    let price = price_of c.args.self.price in
    let high = c.figure_at-high.ensures in
    let dead = c.figure_at-dead.ensures in
    let need = c.figure_at-need.ensures in
    let next = c.figure_at-next.ensures in
    let fill = c.figure_at-fill.ensures in
    figures-are k a.0 e c.args.p (within-there k a.0 e a.1) high dead need next fill
    (omega (arith, c.of_move-save.ensures.0, ap price c.saturating_sub.ensures))
    (omega (arith, c.of_move-reload.ensures.0, ap price c.saturating_sub-2.ensures))
    (omega (arith, c.of_move-later.ensures.0, ap price c.saturating_sub-3.ensures))
    (omega (arith, c.of_move.ensures.0)) refl

pub figure_at-high-requires : goal.figure_at-high-requires
figure_at-high-requires c = read-there c.args.self.readable c.requires.0 c.span_at-s.ensures high_column (omega arith) c.requires.1

pub figure_at-dead-requires : goal.figure_at-dead-requires
figure_at-dead-requires c = read-there c.args.self.readable c.requires.0 c.span_at-s.ensures dead_column (omega arith) c.requires.1

pub figure_at-need-requires : goal.figure_at-need-requires
figure_at-need-requires c = read-there c.args.self.readable c.requires.0 c.span_at-s.ensures need_column (omega arith) c.requires.1

pub figure_at-next-requires : goal.figure_at-next-requires
figure_at-next-requires c = read-there c.args.self.readable c.requires.0 c.span_at-s.ensures next_column (omega arith) c.requires.1

pub figure_at-fill-requires : goal.figure_at-fill-requires
figure_at-fill-requires c = read-there c.args.self.readable c.requires.0 c.span_at-s.ensures fill_column (omega arith) c.requires.1
