-- The values of the points before p are written.
use Prim.Native.Nat.{ℕ, ◌<◌}
use Rattle.tables.specs.Tables.{item}
use Rattle.columns.proofs.each_point.Given as goal

abbrev pub invariant-loop-p : goal.invariant-loop-p
invariant-loop-p g l = (q : ℕ) → q < l.p → goal.F-post g l.value q (item l.v-items q)
