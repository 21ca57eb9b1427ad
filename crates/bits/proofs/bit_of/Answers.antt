-- A shift and a mask read one bit.
use Rattle.bits.proofs.Laws.{bit-read}
use Rattle.bits.proofs.bit_of.Goals as goal

pub returns : goal.returns
returns c = bit-read c.args.m c.args.o
