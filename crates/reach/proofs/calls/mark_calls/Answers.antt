-- The points before i have marked the functions that they call.
use native.Mathlib.Omega.{arith}
use mathlib.Core.Path.{◌≡◌}
use Rattle.reach.proofs.Called.{mark-start, mark-more}
use Rattle.reach.proofs.calls.mark_calls.Goals as goal

pub loop-i-preserved : goal.loop-i-preserved
loop-i-preserved c f h = mark-more c.args.task.work.now f c.loop-i.i (c.loop-i.invariant f h) c.point_at.ensures (c.mark.ensures f h)

pub loop-i-init : goal.loop-i-init
loop-i-init c f h = mark-start c.args.task.work.now f (c.requires f)

pub returns : goal.returns
returns c f h = let e : c.loop-i.i ≡ c.args.task.header.points = omega arith in rw e at (c.loop-i.invariant f h)
