-- The sum by its parts.
use native.Mathlib.Omega.{arith}
use Rattle.model.specs.Sheet.{once_of}
use Rattle.report.proofs.once_of.Goals as goal

pub returns : goal.returns
unfolding once_of
returns c = omega (arith, c.min.ensures, c.saturating_sub-missing.ensures, c.max.ensures)
