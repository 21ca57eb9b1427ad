-- The loop counts from the last function to the first.
use Prim.Native.Nat.{◌≤◌}
use mathlib.Core.Path.{◌≡◌}
use Rattle.levels.specs.Levels.{level_among, shortest_in}
use Rattle.levels.proofs.level_among.Given as goal

abbrev pub invariant-loop-g : goal.invariant-loop-g
invariant-loop-g l = (l.m ≤ l.g) × (l.level ≡ level_among (shortest_in l.work) l.g l.n l.v)
