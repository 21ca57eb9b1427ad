-- Ten zeros fall.
use mathlib.Core.Path.{refl}
use Rattle.model.specs.Limits.{most_dearest}
use Rattle.ranks.proofs.Laws.{zeros-fall}
use Rattle.ranks.proofs.Ranks.none.Goals as goal

pub invariant_of-result : goal.invariant_of-result
invariant_of-result c = record { ten = refl; falling = zeros-fall most_dearest }
