-- A frame within the cache moves nothing.
use mathlib.Core.Path.{refl}
use native.Mathlib.Omega.{arith}
use Rattle.machine.specs.Moves.{eviction_of}
use Rattle.machine.proofs.Laws.{entered}
use Rattle.machine.proofs.Machine.fresh.Goals as goal

pub returns : goal.returns
unfolding eviction_of
returns c =
    let e = c.reserved-cached.ensures in
    entered _ _ _ _ _ (omega arith) refl e e refl c.block_of.ensures.0
