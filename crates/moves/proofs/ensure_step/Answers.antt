-- What is missing comes back, and the sheet allows the fill.
use native.Mathlib.Omega.{arith}
use Rattle.machine.specs.Moves.{core_of}
use Rattle.machine.proofs.Kept.{ensure-blocks}
use Rattle.bounds.specs.Bounds.{fill_bounds}
use Rattle.moves.proofs.Laws.{read-inside}
use Rattle.moves.proofs.ensure_step.Goals as goal

pub moves_price-cost-requires : goal.moves_price-cost-requires
moves_price-cost-requires c =
    let o = core_of c.args.x.machine c.args.cache.now c.args.memory.now in
    (c.requires.0.bounded.readable.small, omega arith, omega (arith, c.ensure-moved.ensures.blocks, ensure-blocks o c.args.k, c.requires.4))

pub figure_at-bound-requires : goal.figure_at-bound-requires
figure_at-bound-requires c = read-inside c.requires.0 fill_bounds (omega arith)
