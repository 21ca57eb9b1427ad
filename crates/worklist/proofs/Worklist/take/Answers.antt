-- The last point waits no longer.
use native.Mathlib.Omega.{arith}
use Rattle.worklist.specs.Worklist.{worklist_of, Ends}
use Rattle.worklist.proofs.Laws.{sound-ends, took-last}
use Rattle.worklist.proofs.Worklist.take.Goals as goal

pub returns : goal.returns
returns g c =
    let e : Ends c.last-p.result (worklist_of c.args.state.now c.args.self.now.points c.args.self.now.count) =
    rw c.last-p.ensures (sound-ends c.requires (omega arith)) in
    let t = took-last _ _ _ _ e in
    (e, t.0, t.1)
