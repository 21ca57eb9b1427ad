-- The sum is the rank.
use native.Mathlib.Omega.{arith}
use Rattle.dearest.specs.Ranking.{rank_of}
use Rattle.dearest.proofs.rank_with.Goals as goal

pub returns : goal.returns
unfolding rank_of
returns c = omega arith
