-- What the kernel ensures answers both refusals.
use native.Mathlib.Omega.{arith}
use Rattle.reach.proofs.Answers.{answered}
use Rattle.reach.proofs.solve.Goals as goal

pub solve-requires : goal.solve-requires
solve-requires c = rw c.new-flow.ensures.1 (omega arith, omega arith)

pub returns : goal.returns
returns c =
    let s = c.args.func.fits in
    let e = c.new-flow.ensures in
    let k = rw (e.0, e.1, e.2, e.3) at c.solve.ensures in
    answered s c.low_bits.ensures c.args.scratch.now.no_gens c.fill_kills.ensures k.0
