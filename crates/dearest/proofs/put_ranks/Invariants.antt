-- The loop's invariant: the lines of the ranks so far are put.
use lib.ListN.{take}
use Rattle.dearest.specs.Ranking.{list_text}
use Rattle.dearest.proofs.put_ranks.Given as goal

abbrev pub invariant-loop-rank : goal.invariant-loop-rank
invariant-loop-rank g l = g.S.Sink.Puts (list_text (take l.rank-index l.ranks)) l.initial.out l.out
