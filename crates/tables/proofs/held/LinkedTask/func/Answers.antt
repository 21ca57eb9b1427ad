-- The walks of a function of a linked task stay in it.
use Rattle.tables.proofs.Valid.{fits_in}
use Rattle.tables.proofs.held.LinkedTask.func.Goals as goal

pub invariant_of-result : goal.invariant_of-result
invariant_of-result c =
    let a = c.args.self in
    record { fits = rw c.span_at.ensures (fits_in a.task.holds a.shaped a.linked c.args.f c.requires) }
