-- One function a turn.
use native.Mathlib.Omega.{arith}
use mathlib.Core.Path.{◌≡◌}
use Rattle.model.specs.Basic.{joined, count_from}
use Rattle.tables.specs.Tables.{task_of}
use Rattle.readout.specs.View.{sheet_of}
use Rattle.ranks.proofs.Laws.{best_none}
use Rattle.dearest.specs.Ranking.{func_ranks}
use Rattle.dearest.proofs.Laws.{funcs-more, taken_more}
use Rattle.dearest.proofs.rank_funcs.Goals as goal

pub loop-f-init : goal.loop-f-init
unfolding joined count_from
loop-f-init c = best_none c.args.ranks.now.places c.args.ranks.now.ten

pub loop-f-preserved : goal.loop-f-preserved
loop-f-preserved c =
    let s = c.args.sheet in
    let l = c.loop-f in
    taken_more c.args.ranks.now.places (func_ranks (task_of s.work.now s.header) (sheet_of s) l.f) _ l.invariant c.rank_points.ensures
    (funcs-more (sheet_of s) s.work.now s.header l.f (omega arith))

pub returns : goal.returns
returns c =
    let e : c.loop-f.f ≡ c.args.sheet.header.funcs = omega arith in
    rw e at c.loop-f.invariant
