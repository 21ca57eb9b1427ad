-- The points of a function of a task lie in the tables.
use Rattle.tables.proofs.Valid.{lies_in}
use Rattle.tables.proofs.held.HeldTask.func.Goals as goal

pub invariant_of-result : goal.invariant_of-result
invariant_of-result c = let a = c.args.self in record { lies = rw c.span_at.ensures (lies_in a.holds c.args.f c.requires) }
