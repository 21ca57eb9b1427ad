-- A store kills its offset, and any other point none.
use lib.Dec.{ltb→lt}
use Rattle.bits.proofs.Laws.{marks-none, marks-single}
use Rattle.model.specs.Limits.{most_stack}
use Rattle.reach.proofs.Points.{not-store}
use Rattle.reach.proofs.point.kill_of.Goals as goal

pub single_bit-requires : goal.single_bit-requires
single_bit-requires c = ltb→lt c.in-Store.o most_stack (rw c.in-Store.is at c.requires)

pub returns-in-Store : goal.returns-in-Store
returns-in-Store c = rw c.in-Store.is (marks-single c.single_bit.ensures)

pub returns : goal.returns
returns c = rw (not-store c.args.x c.in_default.not-Store) marks-none
