-- The last caller is read back, where there is one.
use mathlib.Core.Path.{refl}
use Rattle.steps.proofs.Laws.{callers-none, caller_runs}
use Rattle.steps.proofs.caller_runs.Goals as goal

pub returns-then-depth-eq0 : goal.returns-then-depth-eq0
returns-then-depth-eq0 c = (callers-none _ _ _ _ c.if-depth-eq0.true, refl, refl, refl)

pub returns : goal.returns
returns c = (caller_runs _ _ c.if-depth-eq0.false, refl, refl, refl)
