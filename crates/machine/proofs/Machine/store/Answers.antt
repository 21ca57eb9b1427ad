-- The block of the offset is set, and LP is past it.
use mathlib.Core.Path.{◌≡◌, refl}
use Prim.Native.Nat.{suc, max}
use lib.ListN.{set, length-set}
use native.Mathlib.Omega.{arith}
use Rattle.model.specs.Core.{store}
use Rattle.machine.specs.Moves.{eviction_of}
use Rattle.machine.proofs.Laws.{top-after, on-as}
use Rattle.machine.proofs.Machine.store.Goals as goal

pub returns : goal.returns
unfolding store
returns c =
    let a = c.args in
    let o = c.requires.0 in
    let b = top-after _ _ _ _ _ o.top c.block_after-block.ensures.0 in
    let p : c.max.result ≡ max (suc a.o) a.self.pointer = omega arith in (
      λ memory i. record {
        st = a.self.st;
        occupancy = a.self.occupancy;
        pointer = p i;
        eviction = eviction_of a.self.lazy;
        cache = set a.cache.now (b i) a.v;
        memory = memory;
      },
      on-as o refl refl (length-set a.cache.now _ a.v),
    )
