-- A word less its leading zeros.
use native.Mathlib.Omega.{arith}
use lib.Count.{leading_le}
use Rattle.bits.proofs.Laws.{top-leading}
use Rattle.bits.proofs.top_of.Goals as goal

pub overflow_sub-result : goal.overflow_sub-result
overflow_sub-result c = omega (arith, leading_le 64 c.args.m)

pub returns : goal.returns
returns c = top-leading c.args.m (omega arith)
