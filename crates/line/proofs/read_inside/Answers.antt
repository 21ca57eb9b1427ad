-- `line::read_inside` meets its contract.
use mathlib.Core.Path.{sym}
use Rattle.line.proofs.Laws.{point-as, close-as, other-as}
use Rattle.line.proofs.read_inside.Goals as goal

pub returns-in-Some : goal.returns-in-Some
returns-in-Some c = point-as _ _ _ c.in-Some.ensures

pub returns-then-starts : goal.returns-then-starts
returns-then-starts c = close-as _ (sym c.if-starts.ensures)

pub returns-else-starts : goal.returns-else-starts
returns-else-starts c = other-as _ c.in_default.ensures (sym c.if-starts.ensures)
