-- The loop writes the kill of one point a turn.
use Prim.Native.Nat.{ℕ, ◌+◌, ◌-◌, ◌≤◌, ◌<◌}
use mathlib.Core.Path.{◌≡◌}
use lib.ListN.{length}
use Rattle.bits.specs.Bits.{Marks}
use Rattle.model.specs.Walk.{stored, is}
use Rattle.tables.specs.Tables.{item, point_at}
use Rattle.reach.proofs.fill_kills.Given as goal

abbrev pub invariant-loop-p : goal.invariant-loop-p
invariant-loop-p l =
    (l.p ≤ l.func.span.size)
    × (length l.kills ≡ length l.initial.kills)
    × ((q : ℕ) → q < l.p → Marks (λ j. is j (stored (point_at l.func.work.now (l.func.span.base + q)))) (item l.kills q))

abbrev pub decreases-loop-p : goal.decreases-loop-p
decreases-loop-p l = l.func.span.size - l.p
