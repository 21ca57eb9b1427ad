-- `line::read_stack` meets its contract.
use Rattle.line.proofs.Laws.{stack-as}
use Rattle.line.proofs.read_stack.Goals as goal

pub returns : goal.returns
returns c = stack-as _ _ c.one.ensures
