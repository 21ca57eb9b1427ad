-- The operator is the definition.
use mathlib.Core.Path.{refl}
use Rattle.bits.specs.Bits.{union}
use Rattle.bits.proofs.union_of.Goals as goal

pub returns : goal.returns
unfolding union
returns c = refl
