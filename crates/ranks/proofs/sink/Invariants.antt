-- Each turn of the loop is one place that the rank sinks through.
use Rattle.ranks.proofs.Laws.{Sinking}
use Rattle.ranks.proofs.sink.Given as goal

abbrev pub invariant-loop-place : goal.invariant-loop-place
invariant-loop-place l = Sinking l.rank l.sinking l.place-index l.initial.places l.places
