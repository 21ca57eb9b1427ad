-- A point that is not in the worklist has its place there.
use native.Mathlib.Omega.{arith}
use mathlib.Core.Path.{refl}
use Rattle.worklist.proofs.Laws.{absent-room, absent-added, put_added}
use Rattle.worklist.proofs.Worklist.put.Goals as goal

pub bounds-self-self : goal.bounds-self-self
bounds-self-self g c = omega (arith, (absent-room c.requires).2)

pub returns : goal.returns
returns g c = rw (put_added c.args.state.now c.args.self.now.points c.args.self.now.count c.args.q) (refl, absent-added c.requires)
