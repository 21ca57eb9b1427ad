-- The shift loses nothing.
use Rattle.bits.proofs.Laws.{bit_shifted}
use Rattle.bits.proofs.single_bit.Goals as goal

pub returns : goal.returns
returns c = bit_shifted c.args.o c.requires
