-- By the kind of the point.
use native.Mathlib.Omega.{arith}
use Rattle.tables.specs.Tables.{task_of}
use Rattle.turns.proofs.Laws.{plain_in, stays_same}
use Rattle.turns.proofs.Given.{load_given, store_given, call-given, ensure-given, return-given, frame_same}
use Rattle.turns.proofs.step.Goals as goal

pub returns-in-Load : goal.returns-in-Load
returns-in-Load c =
    let a = c.args in
    rw c.in-Load.is (plain_in _ (c.load_step.ensures (task_of a.work.now a.h) a.v a.work.now a.memory.now), stays_same _)

pub returns-in-Store : goal.returns-in-Store
returns-in-Store c =
    let a = c.args in
    rw c.in-Store.is (plain_in _ (c.store_step.ensures (task_of a.work.now a.h) a.work.now a.memory.now), stays_same _)

pub returns-in-Call : goal.returns-in-Call
returns-in-Call c = rw c.in-Call.is (c.call_step.ensures.0 c.args.v, c.call_step.ensures.1)

pub returns-in-Ensure : goal.returns-in-Ensure
returns-in-Ensure c = rw c.in-Ensure.is (c.ensure_step.ensures c.args.v, stays_same _)

pub returns-in-Goto : goal.returns-in-Goto
returns-in-Goto c =
    let a = c.args in
    rw c.in-Goto.is (plain_in _ (c.goto_step.ensures (task_of a.work.now a.h) a.v a.work.now a.cache.now a.memory.now c.requires.runs.on), stays_same _)

pub returns-in-Either : goal.returns-in-Either
returns-in-Either c =
    let a = c.args in
    rw c.in-Either.is (plain_in _ (c.either_step.ensures (task_of a.work.now a.h) a.work.now a.cache.now a.memory.now c.requires.runs.on), stays_same _)

pub returns-in-Return : goal.returns-in-Return
returns-in-Return c =
    let a = c.args in
    rw c.in-Return.is (plain_in _ (c.return_step.ensures (task_of a.work.now a.h) a.v a.memory.now (frame_same c.requires)), stays_same _)

pub call_step-requires : goal.call_step-requires
call_step-requires c = call-given c.requires c.in-Call.is

pub ensure_step-requires : goal.ensure_step-requires
ensure_step-requires c =
    let g = ensure-given c.requires c.in-Ensure.is in (c.requires.inside, c.requires.runs.on, g.0, g.1, g.2)

pub load_step-requires : goal.load_step-requires
load_step-requires c = load_given c.requires c.in-Load.is

pub store_step-requires : goal.store_step-requires
store_step-requires c = store_given c.requires c.in-Store.is

pub return_step-requires : goal.return_step-requires
return_step-requires c = return-given c.requires (omega (arith, c.well_formed))
