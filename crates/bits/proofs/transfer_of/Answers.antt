-- A difference and a union.
use Rattle.bits.specs.Bits.{transfer}
use Rattle.bits.proofs.transfer_of.Goals as goal

pub returns : goal.returns
unfolding transfer
returns c = rw (← c.difference_of.ensures) c.union_of.ensures
