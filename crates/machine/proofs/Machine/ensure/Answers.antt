-- The blocks that are missing come back, upward from MT.
use mathlib.Core.Path.{refl}
use native.Mathlib.Omega.{arith}
use Rattle.model.specs.Core.{ensure}
use Rattle.machine.proofs.Laws.{top-after, on-as, fill-back, does}
use Rattle.machine.proofs.Machine.ensure.Goals as goal

pub fill-requires : goal.fill-requires
fill-requires c =
    (top-after _ _ _ _ _ c.requires.0.top c.block_after-first.ensures.0, c.block_after-first.ensures.1, omega arith)

pub returns : goal.returns
unfolding ensure
returns c =
    does _ _ _ _ refl c.ensured_to.ensures refl refl
    (fill-back _ _ _ _ _ _ _ _ refl c.ensure_moves-blocks.ensures c.fill.ensures)
    refl
    (on-as c.requires.0 refl refl c.cache-1.given)
    c.ensure_moves-blocks.ensures
