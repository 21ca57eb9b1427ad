-- What is written is the list.
use Rattle.services.proofs.Laws.{write-numbers}
use Rattle.services.proofs.dearest_points.Goals as goal

pub returns : goal.returns
returns c = let e = c.write.ensures in record { left = e; numbers = write-numbers _ _ _ _ _ e }
