-- The loop meets the callees from the last point to the first.
use Prim.Native.Nat.{◌-◌}
use native.Mathlib.Omega.{arith}
use Rattle.displace.proofs.Callees.{seen_none, seen-call, seen_other, seen_all}
use Rattle.displace.proofs.callee_range.Goals as goal

pub loop-p-init : goal.loop-p-init
loop-p-init c = seen_none _ _

pub loop-p-preserved-in-Some : goal.loop-p-preserved-in-Some
loop-p-preserved-in-Some c =
    let l = c.loop-p in
    let a = c.args in
    rw c.widened.ensures (seen-call a.work.now a.s (l.p - 1) (omega arith) l.range (omega arith) c.in-Some.ensures.0 l.invariant)

pub loop-p-preserved : goal.loop-p-preserved
loop-p-preserved c =
    let l = c.loop-p in
    let a = c.args in
    seen_other a.work.now a.s (l.p - 1) (omega arith) l.range (omega arith) (c.requires.2 (l.p - 1) (omega arith)) c.in_default.ensures l.invariant

pub returns : goal.returns
returns c = seen_all _ _ _ (omega arith) c.loop-p.invariant
