-- The points before p pass.
use mathlib.Core.Path.{sym, ◌∙◌}
use Rattle.reach.proofs.Rows.{searching-none, searching-on, searching-off, searching-end}
use Rattle.reach.proofs.first_failing.Goals as goal

pub loop-p-init : goal.loop-p-init
loop-p-init g c test h = searching-none _ _ _ test

pub returns-then-not-passes : goal.returns-then-not-passes
returns-then-not-passes g c test h =
    let t = c.loop-p-test.true in
    let e = h c.loop-p.p c.passes.result t c.passes.ensures in
    searching-off _ _ _ test _ (c.loop-p.invariant test h) (sym e ∙ c.if-not-passes.true) c.line_in.ensures t

pub loop-p-preserved : goal.loop-p-preserved
loop-p-preserved g c test h =
    let t = c.loop-p-test.true in
    let e = h c.loop-p.p c.passes.result t c.passes.ensures in
    searching-on _ _ _ test _ (c.loop-p.invariant test h) (sym e ∙ c.if-not-passes.false) t

pub returns : goal.returns
returns g c test h = searching-end _ _ _ test _ (c.loop-p.invariant test h) c.loop-p-test.false
