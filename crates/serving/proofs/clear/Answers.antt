-- Zeros are written over the numbers asked for, where the working space is not too small.
use native.Mathlib.Omega.{arith}
use Rattle.serving.proofs.Laws.{cleared-short, cleared-filled}
use Rattle.serving.proofs.clear.Goals as goal

pub returns-then-asked-work : goal.returns-then-asked-work
returns-then-asked-work c =
    cleared-filled _ _ (omega (arith, c.if-asked-work.true)) (c.fill.ensures.after (λ y e. e))

pub returns-else-asked-work : goal.returns-else-asked-work
returns-else-asked-work c = cleared-short _ _ (omega (arith, c.if-asked-work.false))
