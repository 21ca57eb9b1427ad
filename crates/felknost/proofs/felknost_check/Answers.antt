-- The number of the judgement; its place fits 16 bits.
use Rattle.felknost.proofs.Laws.{accepted, fits, numbered}
use Rattle.felknost.proofs.felknost_check.Goals as goal

pub packed-requires : goal.packed-requires
packed-requires c =
    fits c.args.text.now
    c.judge_text.ensures c.in-Err.is

pub returns-in-Ok : goal.returns-in-Ok
returns-in-Ok c =
    accepted c.args.text.now c.judge_text.ensures
    c.in-Ok.is

pub returns-in-Err : goal.returns-in-Err
returns-in-Err c =
    numbered c.args.text.now
    c.judge_text.ensures c.in-Err.is c.packed.ensures
