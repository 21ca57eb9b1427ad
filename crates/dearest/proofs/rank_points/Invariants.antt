-- The loop's invariant: the first p points are taken in.
use mathlib.Core.Path.{◌≡◌}
use Rattle.readout.specs.View.{sheet_of}
use Rattle.ranks.specs.Ranks.{best}
use Rattle.dearest.specs.Ranking.{point_ranks}
use Rattle.dearest.proofs.rank_points.Given as goal

abbrev pub invariant-loop-p : goal.invariant-loop-p
invariant-loop-p l = l.ranks.places ≡ best l.initial.ranks.places (point_ranks (sheet_of l.sheet) l.f l.p)
