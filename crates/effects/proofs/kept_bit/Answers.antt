-- No bit for no block, and bit k - 1 for k blocks.
use native.Mathlib.Omega.{arith}
use Rattle.effects.proofs.Laws.{kept-none}
use Rattle.effects.proofs.kept_bit.Goals as goal

pub returns-then-k-eq0 : goal.returns-then-k-eq0
returns-then-k-eq0 c = kept-none (omega arith)
