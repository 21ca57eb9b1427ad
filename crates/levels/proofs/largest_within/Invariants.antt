-- The loop goes from the last function to the first.
use Prim.Native.Nat.{◌≤◌}
use mathlib.Core.Path.{◌≡◌}
use Rattle.levels.specs.Levels.{largest_within, level_in, shortest_in}
use Rattle.levels.proofs.largest_within.Given as goal

abbrev pub invariant-loop-g : goal.invariant-loop-g
invariant-loop-g l = (l.m ≤ l.g) × (l.most ≡ largest_within (level_in l.work) (shortest_in l.work) l.g l.n l.level)
