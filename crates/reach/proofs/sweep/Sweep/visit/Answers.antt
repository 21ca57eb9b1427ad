-- The point is a load or a store, or it is neither.
use Rattle.reach.proofs.Points.{access-stepped, other-there}
use Rattle.reach.proofs.sweep.Sweep.visit.Goals as goal

pub returns-then-access_at : goal.returns-then-access_at
returns-then-access_at c =
    let a = c.args in
    access-stepped _ a.func.span _ c.requires c.access_at.ensures _ c.if-access_at.true c.point.ensures.there
    a.mark a.self.now.sets a.self.now.marks c.access.result c.access.ensures

pub returns : goal.returns
returns c =
    rw
    (← c.next_at.ensures)
    (c.onward.ensures _ (other-there _ c.args.func.span _ c.requires c.access_at.ensures _ c.if-access_at.false))
