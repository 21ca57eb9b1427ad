-- The blocks that the point needs come back, from the lowest live offset up; LP is there.
use mathlib.Core.Path.{refl}
use native.Mathlib.Omega.{arith}
use Rattle.model.specs.Core.{resume}
use Rattle.machine.proofs.Laws.{top-after, on-as, fill-back, does}
use Rattle.machine.proofs.Machine.resume.Goals as goal

pub fill-requires : goal.fill-requires
fill-requires c =
    (top-after _ _ _ _ _ c.requires.0.top c.block_after-first.ensures.0, c.block_after-first.ensures.1, omega arith)

pub returns : goal.returns
unfolding resume
returns c =
    does _ _ _ _ refl c.resumed.ensures c.saved_from-live.ensures refl
    (fill-back _ _ _ _ _ _ _ _ c.saved_from-live.ensures c.resume_moves-blocks.ensures c.fill.ensures)
    refl
    (on-as c.requires.0 refl refl c.cache-1.given)
    c.resume_moves-blocks.ensures
