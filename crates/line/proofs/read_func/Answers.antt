-- `line::read_func` meets its contract.
use Rattle.line.proofs.Laws.{func-as}
use Rattle.line.proofs.read_func.Goals as goal

pub returns : goal.returns
returns c = func-as _ _ c.one.ensures
