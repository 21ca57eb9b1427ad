-- The loop keeps what is done and what is left of the run.
use Rattle.steps.specs.Frames.{eviction_at}
use Rattle.run.proofs.Loop.{Loops}
use Rattle.run.proofs.run_events.Given as goal

abbrev pub invariant-loop-i : goal.invariant-loop-i
invariant-loop-i l =
    Loops (eviction_at l.initial.x) l.price l.h l.events l.initial.answers l.initial.cache l.initial.memory l.initial.work l.i l.x l.answers l.cache l.memory l.work
