-- One number a turn.
use native.Mathlib.Omega.{arith}
use lib.Seq.{take_all}
use Rattle.print.specs.Print.{spaced_number}
use Rattle.print.proofs.Sinks.{items-none, item-room, item-more}
use Rattle.print.proofs.put_numbers.Goals as goal

pub loop-n-init : goal.loop-n-init
loop-n-init g c = items-none g.met.S.Sink.laws spaced_number c.args.numbers.now _ (omega (arith, c.requires))

pub put_number-requires : goal.put_number-requires
put_number-requires g c = item-room g.met.S.Sink.laws spaced_number c.args.numbers.now _ c.loop-n-test.true c.loop-n.invariant c.requires

pub loop-n-preserved : goal.loop-n-preserved
loop-n-preserved g c =
    item-more g.met.S.Sink.laws spaced_number c.args.numbers.now _ c.loop-n-test.true c.loop-n.invariant c.put_number.ensures

pub returns : goal.returns
returns g c = rw (take_all c.loop-n.n-index c.args.numbers.now (omega arith)) at c.loop-n.invariant
