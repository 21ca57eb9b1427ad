-- The loop keeps what is done and what is left of the run.
use native.Mathlib.Omega.{arith}
use Rattle.turns.proofs.Given.{runs-placed}
use Rattle.run.proofs.Loop.{loops-start, serves-as, loops-end, loops-off, loops-more, loops-on}
use Rattle.run.proofs.run_events.Goals as goal

pub returns-in-Err : goal.returns-in-Err
returns-in-Err c =
    serves-as c.args.eviction c.start-x.result c.requires c.start-x.ensures
    (loops-off c.loop-i.invariant (omega arith) c.requires.answered _ c.in-Err.ensures c.ended.ensures)

pub perform-turned-requires : goal.perform-turned-requires
perform-turned-requires c =
    loops-more c.loop-i.invariant (omega arith) c.requires.answered _ c.in-Ok.ensures (omega (arith, c.requires.few))

pub loop-i-preserved : goal.loop-i-preserved
loop-i-preserved c =
    loops-on c.loop-i.invariant (omega arith) c.requires.answered _ c.in-Ok.ensures {r = c.perform-turned.result} c.perform-turned.ensures

pub returns : goal.returns
returns c =
    let p = c.requires in
    serves-as c.args.eviction c.start-x.result p c.start-x.ensures
    (loops-end c.loop-i.invariant p.paired p.answered (omega arith) c.ended-2.ensures)

pub loop-i-init : goal.loop-i-init
loop-i-init c = loops-start c.args.eviction c.start-x.result c.requires c.start-x.ensures

pub decode-requires : goal.decode-requires
decode-requires c = runs-placed c.loop-i.invariant.runs
