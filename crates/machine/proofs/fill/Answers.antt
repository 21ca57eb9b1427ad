-- A turn brings one number back and goes on to the next block.
use Rattle.machine.proofs.Laws.{filled_more, block-next}
use Rattle.machine.proofs.fill.Goals as goal

pub loop-i-preserved : goal.loop-i-preserved
loop-i-preserved c =
    let a = c.args in
    let k = c.loop-i.invariant in (
      filled_more a.memory.now a.cache.now _ a.a c.loop-i.i c.loop-i.block k.0 k.1,
      block-next _ a.a _ c.loop-i.i _ k.1 c.block_next-block.ensures.0,
      c.block_next-block.ensures.1,
    )
