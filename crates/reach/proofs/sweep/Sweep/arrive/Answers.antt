-- A set joins that of a higher point, and brings a lower one nothing.
use native.Mathlib.Omega.{arith}
use borrow.Author.Tests.{eqb-true}
use Rattle.reach.proofs.Theory.{moved-above, moved-below}
use Rattle.reach.proofs.sweep.Sweep.arrive.Goals as goal

pub returns-then-p-q : goal.returns-then-p-q
returns-then-p-q c e = moved-above _ _ _ _ (omega arith) (omega arith) (omega arith) c.union_at.ensures

pub returns : goal.returns
returns c e = moved-below _ _ _ _ (omega arith) c.union_of.ensures (eqb-true _ _ e)
