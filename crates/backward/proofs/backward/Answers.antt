-- Rounds until one changes nothing.
use native.Mathlib.Omega.{arith}
use Rattle.bits.proofs.Laws.{filled-cleared}
use Rattle.tables.proofs.Valid.{kept_same, kept_on}
use Rattle.flow.proofs.Laws.{kept-cleared}
use Rattle.backward.proofs.Theory.{right-cleared, solved-round}
use Rattle.backward.proofs.backward.Goals as goal

pub loop-init : goal.loop-init
loop-init c = (right-cleared _ _ _ _ _ (filled-cleared _ _ (omega arith) (c.fill.ensures.after (λ y e. e))), kept_same _ _)

pub round-requires : goal.round-requires
round-requires c = (omega (arith, c.loop.invariant.1.size), c.loop.invariant.0)

pub loop-smaller : goal.loop-smaller
loop-smaller c = c.round.ensures.changes c.loop-test.true

pub loop-preserved : goal.loop-preserved
loop-preserved c =
    let r = c.round.ensures in
    (r.right, kept_on c.loop.invariant.1 r.kept)

pub returns : goal.returns
returns c =
    let r = c.round.ensures in
    let e = filled-cleared _ _ c.requires (c.fill.ensures.after (λ y e. e)) in (
      solved-round _ _ _ _ c.args.flow.given.fits.inside c.args.flow.words r c.loop-test.false,
      kept_on (kept-cleared e c.requires) (kept_on c.loop.invariant.1 r.kept),
    )
