-- By the branches of the definition.
use native.Mathlib.Omega.{arith}
use Rattle.columns.specs.Values.{filled_at}
use Rattle.columns.proofs.FuncColumns.fill.Goals as goal

pub returns-then-not-is_ensure : goal.returns-then-not-is_ensure
unfolding filled_at
returns-then-not-is_ensure c = rw (← c.if-not-is_ensure.ensures)

pub returns-in-Some : goal.returns-in-Some
unfolding filled_at
returns-in-Some c =
    rw (← c.if-not-is_ensure.ensures, ← c.saturating_sub.ensures, c.in-Some.ensures.0) (omega arith)

pub returns-in-None : goal.returns-in-None
unfolding filled_at
returns-in-None c = rw (← c.if-not-is_ensure.ensures, ← c.saturating_sub.ensures, c.in-None.ensures)
