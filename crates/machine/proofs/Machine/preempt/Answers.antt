-- What goes out, what the other task leaves, and what comes back.
use Rattle.machine.specs.Moves.{core_of}
use Rattle.machine.proofs.Laws.{between-on, between-halves, both_halves}
use Rattle.machine.proofs.Machine.preempt.Goals as goal

pub resume-back-requires : goal.resume-back-requires
resume-back-requires c =
    let k = core_of c.args.self c.args.cache.now c.args.memory.now in (
      between-on k _ _ _ _ c.args.v c.save-saved.ensures c.overwrite.ensures,
      between-halves k _ _ _ _ c.args.v c.requires.1 c.save-saved.ensures c.overwrite.ensures,
    )

pub returns : goal.returns
returns c =
    let a = c.args in
    both_halves (core_of a.self a.cache.now a.memory.now) a.dead _ _ _ a.v a.need _ _
    c.save-saved.ensures c.overwrite.ensures c.resume-back.ensures
