-- A turn brings one number back and goes on to the next block.
use Prim.Native.Nat.{◌+◌, ◌%◌, ◌<◌}
use mathlib.Core.Path.{◌≡◌}
use lib.ListN.{length}
use Rattle.model.specs.Core.{filled}
use Rattle.machine.proofs.fill.Given as goal

abbrev pub invariant-loop-i : goal.invariant-loop-i
invariant-loop-i l =
    (l.cache ≡ filled l.memory l.initial.cache l.a l.i)
    × (l.block ≡ (l.a + l.i) % length l.initial.cache)
    × (l.block < length l.initial.cache)
