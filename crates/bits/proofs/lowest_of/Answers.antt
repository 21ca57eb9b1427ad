-- The trailing zeros of a word, no more than k.
use native.Mathlib.Omega.{arith}
use Rattle.bits.proofs.Laws.{lowest-trailing}
use Rattle.bits.proofs.lowest_of.Goals as goal

pub returns : goal.returns
returns c = lowest-trailing _ _ _ c.requires (omega arith)
