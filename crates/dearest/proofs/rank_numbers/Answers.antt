-- The numbers are what the rank says.
use mathlib.Core.Path.{refl}
use Rattle.dearest.specs.Ranking.{rank_text}
use Rattle.dearest.proofs.rank_numbers.Goals as goal

pub returns : goal.returns
unfolding rank_text
returns c = (refl, refl)
