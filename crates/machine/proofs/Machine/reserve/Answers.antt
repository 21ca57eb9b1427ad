-- ST falls with its block, and the blocks that find no room go to memory, as far as they are written back.
use Prim.Native.Nat.{ℕ}
use mathlib.Core.Path.{refl, ap, ◌∙◌}
use lib.ListN.{length}
use Rattle.model.specs.Core.{reserve, reserve_moves}
use Rattle.machine.proofs.Laws.{top_below, area-back, does}
use Rattle.machine.proofs.Machine.reserve.Goals as goal

pub returns : goal.returns
unfolding reserve
returns c =
    let a = c.args in
    let o = c.requires.0 in
    let top = c.block_before-top.ensures.0 _ (top_below _ _ _ _ c.requires.2 o.top) in
    let moved = c.reserve_moves-blocks.ensures ∙ ap (λ (m : ℕ). reserve_moves (length a.cache.now) a.k m) c.written.ensures.0 in
    does _ _ _ _ refl c.reserved-occupancy.ensures c.reserved-pointer.ensures refl refl
    (area-back a.cache.now a.memory.now _ _ _ top _ _ _ _ refl moved c.spill.ensures)
    (record { some = o.some; few = o.few; top = top })
    moved
