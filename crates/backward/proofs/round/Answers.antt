-- One point a turn, from the last to the first.
use native.Mathlib.Omega.{arith}
use mathlib.Core.Path.{◌≡◌}
use borrow.Author.Rules.{rules}
use Rattle.backward.proofs.Theory.{round-starts, round-writes, round-leaves}
use Rattle.backward.proofs.round.Goals as goal

pub loop-p-init : goal.loop-p-init
loop-p-init c = round-starts _ _ _ _ c.requires.1

pub returns : goal.returns
returns c = let e : c.loop-p.p ≡ 0 = omega arith in rw e at c.loop-p.invariant

pub loop-p-preserved-then-m-sets : goal.loop-p-preserved-then-m-sets
loop-p-preserved-then-m-sets c =
    round-writes _ _ _ _ c.args.flow.given.fits.inside c.args.flow.words c.loop-p.invariant (omega arith) (omega arith) c.set_at-m.ensures (search rules) c.if-m-sets.true

pub loop-p-preserved : goal.loop-p-preserved
loop-p-preserved c = round-leaves _ _ _ _ c.loop-p.invariant c.set_at-m.ensures c.if-m-sets.false
