-- Every turn keeps what is known of the points before p, and of the set that comes to p.
use Prim.Native.Nat.{◌<◌}
use native.Mathlib.Omega.{arith}
use lib.ListN.{length}
use Rattle.reach.proofs.Theory.{sweeping-none, turn-falls, turn-leaves}
use Rattle.reach.proofs.Answers.{swept-clean}
use Rattle.reach.proofs.sweep.Sweep.points.Goals.{in-Falls, in-Leaves}
use Rattle.reach.proofs.sweep.Sweep.points.Goals as goal

pub loop-p-preserved : goal.loop-p-preserved
loop-p-preserved c =
    let l = c.loop-p in
    let i : l.p < length l.self.sets = omega arith in
    let v = c.visit.ensures in
    let t = c.loop-p-test.true in
    let j = c.union_at-m.ensures in
    elim c.match-visit.branch [
      | in-Falls w ↦ turn-falls l.invariant t i j _ v _ w.in-Falls.is w.carried-is
      | in-Leaves w ↦ turn-leaves l.invariant t i j _ v w.in-Leaves.is w.carried-is (w.marked_or_past.ensures w.if-marked_or_past.true)
    ]

pub loop-p-init : goal.loop-p-init
loop-p-init c = sweeping-none _ _ _ _ _ _ c.requires

pub returns : goal.returns
returns c e = swept-clean c.args.func.fits c.low_bits-carried.ensures c.loop-p.invariant c.loop-p-test.false
