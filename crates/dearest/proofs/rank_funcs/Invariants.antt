-- The loop's invariant: the points of the first f functions are taken in.
use mathlib.Core.Path.{◌≡◌}
use Rattle.tables.specs.Tables.{task_of}
use Rattle.readout.specs.View.{sheet_of}
use Rattle.ranks.specs.Ranks.{best}
use Rattle.dearest.specs.Ranking.{func_ranks}
use Rattle.dearest.proofs.rank_funcs.Given as goal

abbrev pub invariant-loop-f : goal.invariant-loop-f
invariant-loop-f l =
    l.ranks.places ≡ best l.initial.ranks.places (func_ranks (task_of l.sheet.work.now l.sheet.header) (sheet_of l.sheet) l.f)
