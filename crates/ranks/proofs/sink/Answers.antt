-- Each turn of the loop is one place that the rank sinks through.
use native.Mathlib.Omega.{arith}
use Rattle.ranks.proofs.Laws.{sinking-on, sinking-end}
use Rattle.ranks.proofs.sink.Goals as goal

pub loop-place-preserved : goal.loop-place-preserved
loop-place-preserved c = sinking-on c.loop-place.invariant (omega arith) (omega arith) (omega arith)

pub returns : goal.returns
returns c = sinking-end c.loop-place.invariant (omega arith)
