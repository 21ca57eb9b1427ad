-- The bit of a load's offset is the test.
use lib.Dec.{ltb→lt}
use Rattle.model.specs.Limits.{most_stack}
use Rattle.reach.proofs.Points.{not-load}
use Rattle.reach.proofs.point.has_load.Goals as goal

pub bit_of-requires : goal.bit_of-requires
bit_of-requires c = ltb→lt c.in-Load.o most_stack (rw c.in-Load.is at c.requires)

pub returns-in-Load : goal.returns-in-Load
returns-in-Load c = rw (c.in-Load.is, c.bit_of.ensures)

pub returns : goal.returns
returns c = rw (not-load c.args.x c.in_default.not-Load)
