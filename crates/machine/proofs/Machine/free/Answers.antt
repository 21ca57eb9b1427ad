-- ST rises with its block, and the occupancy and LP are what the rule leaves.
use Prim.Native.Nat.{◌+◌}
use Rattle.model.specs.Core.{free}
use Rattle.machine.specs.Moves.{eviction_of}
use Rattle.machine.proofs.Laws.{top-after}
use Rattle.machine.proofs.Machine.free.Goals as goal

pub returns : goal.returns
unfolding free
returns c =
    let a = c.args in
    let o = c.requires.0 in (
      λ memory i. record {
        st = a.self.st + a.k;
        occupancy = c.freed.ensures i;
        pointer = c.freed-2.ensures i;
        eviction = eviction_of a.self.lazy;
        cache = a.cache.now;
        memory = memory;
      },
      record { some = o.some; few = o.few; top = top-after _ _ _ _ _ o.top c.block_after.ensures.0 },
    )
