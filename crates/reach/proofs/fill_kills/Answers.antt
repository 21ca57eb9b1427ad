-- The loop writes the kill of one point a turn.
use Prim.Native.Nat.{ℕ, ◌+◌}
use native.Mathlib.Omega.{arith}
use mathlib.Core.Path.{refl}
use lib.ListN.{length-set}
use Rattle.bits.specs.Bits.{Marks}
use Rattle.model.specs.Walk.{stored, is}
use Rattle.tables.specs.Tables.{point_at}
use Rattle.reach.proofs.Answers.{filled_more}
use Rattle.reach.proofs.fill_kills.Goals as goal

pub loop-p-preserved : goal.loop-p-preserved
loop-p-preserved c =
    let l = c.loop-p in
    let a = c.args in
    let kills : ℕ → ℕ → Type 0 = λ q. Marks (λ j. is j (stored (point_at a.func.work.now (a.func.span.base + q)))) in (
      omega arith,
      simp length-set l.invariant.1,
      filled_more kills l.kills l.p (omega arith) (rw (← c.point.ensures.there) c.kill_of.ensures) l.invariant.2,
    )

pub loop-p-init : goal.loop-p-init
loop-p-init c = (omega arith, refl, λ q h. absurd (omega arith))
