-- The blocks from the lowest live offset up go to memory, as far as they are written back.
use Prim.Native.Nat.{◌-◌}
use mathlib.Core.Path.{refl, ◌∙◌}
use Rattle.model.specs.Core.{save}
use Rattle.machine.proofs.Laws.{area-back, does}
use Rattle.machine.proofs.Machine.save.Goals as goal

pub returns : goal.returns
unfolding save
returns c =
    let a = c.args in
    let moved = c.saturating_sub-blocks.ensures ∙ (λ i. c.written.ensures.0 i - c.saved_from-live.ensures i) in
    does _ _ _ _ refl refl refl refl refl
    (area-back a.cache.now a.memory.now _ _ _ c.requires.0.top _ _ _ _
    c.saved_from-live.ensures moved c.spill.ensures)
    c.requires.0
    moved
