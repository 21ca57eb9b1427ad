-- Past the end there is no point, which counts as a return.
use mathlib.Core.Path.{sym, ◌∙◌}
use Rattle.tables.proofs.Laws.{point-past, point-there}
use Rattle.tables.proofs.held.HeldFunc.point_or_return.Goals as goal

pub returns-then-p-self : goal.returns-then-p-self
returns-then-p-self c = c.point.ensures ∙ sym (point-there _ _ _ _ c.if-p-self.true)

pub returns-else-p-self : goal.returns-else-p-self
returns-else-p-self c = point-past _ _ _ _ c.if-p-self.false
