-- By the length.
use mathlib.Core.Path.{refl}
use native.Mathlib.Omega.{arith}
use Rattle.serving.proofs.Before.{work-short, work-passes}
use Rattle.serving.proofs.work_row.Goals as goal

-- what is taken is long enough
pub returns : goal.returns
returns c = work-passes _ _ (omega (arith, c.if-length-asked.false)) refl

pub returns-then-length-asked : goal.returns-then-length-asked
returns-then-length-asked c = work-short _ _ (omega (arith, c.if-length-asked.true)) c.refusal.ensures
