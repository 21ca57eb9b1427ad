-- Every visit costs, and leaves the worklist right.
use native.Mathlib.Omega.{arith}
use mathlib.Core.Path.{ap, ◌∙◌}
use Rattle.worklist.specs.Worklist.{Worklist}
use Rattle.forward.specs.Visits.{Visits}
use Rattle.forward.proofs.Steps.{preserved-none, preserved-on, preserved-visited, ready-visit, visited, visit-costs, listed-sound, onward-by, in-hand, progress-same}
use Rattle.forward.proofs.drain.Goals as goal

pub take-last-requires : goal.take-last-requires
take-last-requires c = (omega arith, listed-sound c.requires)

pub loop-last-init : goal.loop-last-init
loop-last-init c = record { list = _; step = (Visits.none, preserved-none c.requires); took = c.take-last.ensures }

pub propagate-last-requires : goal.propagate-last-requires
propagate-last-requires c =
    let e = rw c.in-Some.is at c.loop-last.invariant.took in
    ready-visit e.0 e.1 c.args.flow.given c.loop-last.invariant.step.1.list c.next.ensures

pub loop-last-smaller : goal.loop-last-smaller
unfolding in-hand
loop-last-smaller c =
    let e = rw c.in-Some.is at c.loop-last.invariant.took in
    let v = visit-costs e.0 e.1 c.args.flow.given c.loop-last.invariant.step.1.list c.next.ensures c.propagate-last.ensures in
    rw c.in-Some.is (omega (arith, v))

pub loop-last-preserved : goal.loop-last-preserved
loop-last-preserved c =
    let e = rw c.in-Some.is at c.loop-last.invariant.took in
    let i = c.loop-last.invariant.step in
    onward-by
    (λ y a.
    let v = visited e.0 e.1 c.transfer-m.ensures c.next.ensures a in
    (Visits.more i.0 e.0.some v, preserved-on i.1 (preserved-visited c.args.flow.given.fits.inside i.1.list e.0.some v).0))
    c.propagate-last.ensures

pub returns : goal.returns
returns c =
    let e = rw c.in_default.is at c.loop-last.invariant.took in
    let i = c.loop-last.invariant.step in
    (rw (progress-same e.1) i.0, ap (λ (x : Worklist). x.count) e.1 ∙ e.0, rw (progress-same e.1) i.1.list)
