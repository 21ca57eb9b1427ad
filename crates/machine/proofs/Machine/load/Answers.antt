-- The number in the block of the offset.
use mathlib.Core.Path.{ap}
use lib.ListN.{get_or}
use Rattle.model.specs.Core.{load}
use Rattle.machine.proofs.Laws.{top-after}
use Rattle.machine.proofs.Machine.load.Goals as goal

pub returns : goal.returns
unfolding load
returns c memory =
    ap (λ b. get_or c.args.cache.now b 0) (top-after _ _ _ _ _ c.requires.0.top c.block_after-at.ensures.0)
