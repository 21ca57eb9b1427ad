-- What the first half of a preemption keeps of a good core, the most blocks that a move moves, and what a start and a run's window give.
use Prim.Native.Nat.{ℕ, ◌+◌, ◌≤◌, ◌<◌}
use mathlib.Core.List.{List, ◌∷◌}
use mathlib.Core.Path.{◌≡◌, refl}
use native.Mathlib.Omega.{arith}
use lib.ListN.{length}
use Rattle.model.specs.declared.Eviction.{Eviction}
use Rattle.model.specs.Task.{Task, func}
use Rattle.model.specs.Sheet.{Sheet}
use Rattle.model.specs.Plain.{Frame}
use Rattle.model.specs.Core.{Core, Clean, effective, spilled, reserve, ensure, save, with_cache, idle}
use Rattle.theory.proofs.Blocks.{length-spilled}
use Rattle.theory.proofs.Frames.{Window, total}
use Rattle.theory.proofs.Clean.{written-between}
use Rattle.machine.specs.Moves.{Good}

-- ---- a good core that is saved, and then has another cache

module _ (c : Core) (g : Good c) where
  pub save-good : (dead : ℕ) → Good (save dead c).core
  unfolding save
  save-good dead =
      let l : length (save dead c).core.memory ≡ length c.memory = length-spilled _ _ _ _ in
      record { nonempty = g.nonempty; within = g.within; fits = g.fits; inside = omega (arith, l) }

  pub between-good : (cache : List ℕ) → length cache ≡ length c.cache → Good (with_cache cache c)
  between-good cache e = record { nonempty = omega arith; within = g.within; fits = omega arith; inside = g.inside }

-- ---- the most blocks that a move moves

module _ (c : Core) where
  pub reserve-blocks : (k : ℕ) → c.pointer ≤ c.occupancy → c.occupancy ≤ length c.cache → (reserve k c).blocks ≤ k
  unfolding reserve
  reserve-blocks k i h = omega (arith, written-between c.eviction c.occupancy c.pointer i)

  pub ensure-blocks : (k : ℕ) → (ensure k c).blocks ≤ k
  unfolding ensure
  ensure-blocks k = omega arith

-- what is written back is cached
pub written-few : (c : Core) → Good c → effective c ≤ c.occupancy
written-few c g = (written-between c.eviction c.occupancy c.pointer g.within).1

-- ---- a start

-- entering function 0 moves nothing
unspilled : (cache memory : List ℕ) (a k : ℕ) → k ≡ 0 → spilled cache memory a k ≡ memory
unfolding spilled
unspilled cache memory a k e = rw e refl

module _ (x : Eviction) (cache memory : List ℕ) (frame : ℕ) (h : frame ≤ length cache) where
  pub start-blocks : (reserve frame (idle x cache memory)).blocks ≡ 0
  unfolding reserve
  start-blocks = omega (arith, written-between x 0 0 (omega arith))

  pub start-memory : (reserve frame (idle x cache memory)).core.memory ≡ memory
  unfolding reserve
  start-memory = unspilled cache memory _ _ start-blocks

-- ---- a run

-- every core of a run is good
pub window-good : (t : Task) (s : Sheet) (fs : List Frame) (c : Core) → 0 < t.stack → Window t s fs c → Clean c → Good c
window-good t s fs c h w k =
    record { nonempty = omega (arith, w.blocks); within = k.within; fits = omega (arith, w.blocks, w.fits); inside = omega (arith, w.top, w.inside) }

-- the running frame lies in the memory: what an ensure and a free of it ask
pub window-frame : (t : Task) (s : Sheet) (x : Frame) (fs : List Frame) (c : Core) → Window t s (x ∷ fs) c
    → c.st + (func t x.fn).frame ≤ length c.memory
unfolding total
window-frame t s x fs c w = omega (arith, w.top)
