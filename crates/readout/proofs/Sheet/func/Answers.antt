-- The columns have the figures of the function.
use native.Mathlib.Omega.{arith}
use mathlib.Core.Path.{ap}
use Rattle.prices.specs.Prices.{price_of}
use Rattle.readout.proofs.Read.{small-frame, small-spill, func-figures-are}
use Rattle.readout.proofs.Sheet.func.Goals as goal

pub overflow_add-caller-2 : goal.overflow_add-caller-2
overflow_add-caller-2 c =
    let k = c.args.self.readable in
    omega (arith, small-frame k c.requires c.span_at-frame.ensures, k.entry.each _ c.requires)

pub of_move-requires : goal.of_move-requires
of_move-requires c =
    let k = c.args.self.readable in
    (k.small, omega (arith, c.saturating_sub.ensures, small-spill k c.requires c.span_at-frame.ensures, k.entry.each _ c.requires))

pub returns : goal.returns
returns c =
    func-figures-are c.args.self.readable c.requires c.span_at-frame.ensures (omega (arith, c.of_move.ensures.0, ap (price_of c.args.self.price) c.saturating_sub.ensures))
