-- The last point waits no longer.
use Rattle.worklist.proofs.Laws.{took-last}
use Rattle.worklist.proofs.Worklist.take_last.Goals as goal

pub returns : goal.returns
returns g c = took-last c.args.state.now c.args.self.now.points c.args.self.now.count c.args.q c.requires
