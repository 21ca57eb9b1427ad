-- One line a turn.
use native.Mathlib.Omega.{arith}
use mathlib.Core.Path.{ap}
use lib.ListN.{length}
use lib.Seq.{take_all}
use Rattle.print.proofs.Sinks.{items-none, item-room, item-more}
use Rattle.dearest.specs.Ranking.{rank_text}
use Rattle.dearest.proofs.put_ranks.Goals as goal

pub loop-rank-init : goal.loop-rank-init
loop-rank-init g c = items-none g.met.S.Sink.laws rank_text c.args.ranks.now _ (omega (arith, c.requires.1))

pub put_line-requires : goal.put_line-requires
put_line-requires g c =
    let room = item-room g.met.S.Sink.laws rank_text c.args.ranks.now _ c.loop-rank-test.true c.loop-rank.invariant c.requires.1 in
    omega (arith, room, ap length c.rank_numbers.ensures.0)

pub loop-rank-preserved : goal.loop-rank-preserved
loop-rank-preserved g c =
    item-more g.met.S.Sink.laws rank_text c.args.ranks.now _ c.loop-rank-test.true c.loop-rank.invariant
    (rw c.rank_numbers.ensures.0 at c.put_line.ensures)

pub returns : goal.returns
returns g c = rw (take_all c.loop-rank.rank-index c.args.ranks.now (omega arith)) at c.loop-rank.invariant
