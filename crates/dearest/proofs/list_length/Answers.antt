-- The count is the length of the list, which is small.
use native.Mathlib.Omega.{arith}
use Rattle.dearest.proofs.Laws.{list-most}
use Rattle.dearest.proofs.list_length.Goals as goal

pub put_ranks-requires : goal.put_ranks-requires
put_ranks-requires c = (c.requires, omega (arith, list-most c.requires))

pub returns : goal.returns
returns c =
    let count = c.put_ranks.ensures.count in
    (omega (arith, count), omega (arith, count, list-most c.requires))
