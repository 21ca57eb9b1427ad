-- A load leaves the set as it is, and a store takes its offset out.
use native.Mathlib.Omega.{arith}
use lib.Dec.{ltb→lt}
use Rattle.model.specs.Limits.{most_stack}
use Rattle.reach.proofs.Points.{not-load, load-passes, unloaded-passes}
use Rattle.reach.proofs.sweep.access.Goals as goal

pub bit_of-requires : goal.bit_of-requires
bit_of-requires c = ltb→lt c.in-Load.o most_stack (rw c.in-Load.is at c.requires)

pub returns-in-Load : goal.returns-in-Load
returns-in-Load c = load-passes _ c.in-Load.is c.bit_of.ensures (λ e. omega (arith, c.if-bit_of-eq1.false))

pub returns : goal.returns
returns c =
    let k = c.kill_of in
    let l = not-load c.args.x c.in_default.not-Load in
    unloaded-passes l k.ensures (omega (arith, k.type_inv)) c.difference_of.ensures
