-- The operators are the definition.
use mathlib.Core.Path.{refl}
use Rattle.bits.specs.Bits.{difference}
use Rattle.bits.proofs.difference_of.Goals as goal

pub returns : goal.returns
unfolding difference
returns c = refl
