-- A load or a store leads to the next point; any other point is read and taken apart.
use native.Mathlib.Omega.{arith}
use mathlib.Core.Path.{sym, ◌∙◌}
use Rattle.flow.proofs.Laws.{access-leads, point-leads}
use Rattle.flow.proofs.next_at.Goals as goal

pub returns-then-access_at : goal.returns-then-access_at
returns-then-access_at c = access-leads _ _ _ (omega arith) (sym c.if-access_at.true ∙ c.access_at.ensures)

pub returns : goal.returns
returns c = point-leads _ _ _ (omega arith) c.next_of.ensures c.point_at.ensures
