-- The point is taken at once where it was put.
use native.Mathlib.Omega.{arith}
use Rattle.forward.proofs.Steps.{effect, listed-sound}
use Rattle.forward.proofs.follow.Goals as goal

pub take-requires : goal.take-requires
take-requires c = (omega arith, listed-sound (effect c.requires.list c.requires.below c.merge.ensures.0).on.list)
