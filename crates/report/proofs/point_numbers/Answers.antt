-- The numbers are those of the figures, and the last one is once.
use mathlib.Core.Path.{refl}
use Rattle.report.proofs.point_numbers.Goals as goal

pub returns : goal.returns
returns c = rw c.once_of-once.ensures refl
