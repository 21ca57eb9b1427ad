-- A turn writes one number and goes on to the next block.
use Prim.Native.Nat.{◌+◌}
use Rattle.machine.proofs.Laws.{area-more, block-next}
use Rattle.machine.proofs.spill.Goals as goal

pub loop-i-preserved : goal.loop-i-preserved
loop-i-preserved c =
    let a = c.args in
    let k = c.loop-i.invariant in (
      area-more a.cache.now a.area.now _ a.top a.from c.loop-i.i c.loop-i.block k.0 k.1,
      block-next _ (a.top + a.from) _ c.loop-i.i _ k.1 c.block_next-block.ensures.0,
      c.block_next-block.ensures.1,
    )
