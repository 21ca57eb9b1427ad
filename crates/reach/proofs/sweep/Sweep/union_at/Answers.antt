-- What stands at the point counts where it has the mark.
use Rattle.reach.proofs.Theory.{union-marked, union-bare}
use Rattle.reach.proofs.sweep.Sweep.union_at.Goals as goal

pub returns-then-self-q : goal.returns-then-self-q
returns-then-self-q c = union-marked c.union_of.ensures

pub returns : goal.returns
returns c = union-bare c.if-self-q.false
