-- Cleared tables with point 0 in the worklist, and visits until the worklist is empty.
use native.Mathlib.Omega.{arith}
use Rattle.bits.proofs.Laws.{filled-cleared}
use Rattle.worklist.proofs.Laws.{length-codes}
use Rattle.forward.proofs.Steps.{progress-same}
use Rattle.forward.proofs.Theory.{states-cleared, start-absent, start-listed, start-solved}
use Rattle.forward.proofs.solve.Goals as goal

pub put-requires : goal.put-requires
put-requires c =
    let p = c.requires in
    let g = c.args.flow.given.fits in
    let n = c.new-list.ensures in
    let e = filled-cleared _ _ p.0 (c.fill.ensures.after (λ y e. e)) in
    let f = states-cleared _ _ p.1 (c.fill-2.ensures.after (λ y e. e)) in
    let a = start-absent _ c.args.entry _ _ _ g.some g.small p.0 (omega (arith, length-codes c.args.state.now)) n.0 e f in
    (omega arith, rw n.1 a.0)

pub drain-requires : goal.drain-requires
drain-requires c =
    let p = c.requires in
    let g = c.args.flow.given.fits in
    let n = c.new-list.ensures in
    let e = filled-cleared _ _ p.0 (c.fill.ensures.after (λ y e. e)) in
    let f = states-cleared _ _ p.1 (c.fill-2.ensures.after (λ y e. e)) in
    let put = progress-same (rw n.1 at c.put.ensures.0) in
    start-listed _ c.args.entry _ _ _ g.some g.small p.0 (omega (arith, length-codes c.args.state.now)) n.0 e f put

pub returns : goal.returns
returns c =
    let p = c.requires in
    let g = c.args.flow.given.fits in
    let n = c.new-list.ensures in
    let e = filled-cleared _ _ p.0 (c.fill.ensures.after (λ y e. e)) in
    let f = states-cleared _ _ p.1 (c.fill-2.ensures.after (λ y e. e)) in
    let put = progress-same (rw n.1 at c.put.ensures.0) in
    start-solved _ c.args.entry _ _ _ g.some g.small p.0 (omega (arith, length-codes c.args.state.now)) n.0 e f
    _ _ _ put g.inside c.args.flow.words c.drain.ensures.0 c.drain.ensures.1
