-- A turn writes one number and goes on to the next block.
use Prim.Native.Nat.{◌+◌, ◌%◌, ◌<◌}
use mathlib.Core.Path.{◌≡◌}
use lib.ListN.{length}
use Rattle.machine.specs.Moves.{spilled_area}
use Rattle.machine.proofs.spill.Given as goal

abbrev pub invariant-loop-i : goal.invariant-loop-i
invariant-loop-i l =
    (l.area ≡ spilled_area l.cache l.initial.area l.top l.from l.i)
    × (l.block ≡ (l.top + l.from + l.i) % length l.cache)
    × (l.block < length l.cache)
