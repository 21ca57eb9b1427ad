-- Of the functions from 1 on, those from f on decide.
use mathlib.Core.Bool.{not}
use mathlib.Core.Path.{refl, ap}
use Rattle.theory.proofs.Search.{search-on, search-off, search-end}
use Rattle.tables.specs.declared.Span.{Span}
use Rattle.reach.proofs.Called.{calls-start, row-called, row-uncalled}
use Rattle.reach.proofs.calls.first_unmarked.Goals as goal

pub returns-then-not-marks-f : goal.returns-then-not-marks-f
returns-then-not-marks-f c =
    let t = c.loop-f-test.true in
    let b = ap (λ (s : Span). s.base) c.func-func.ensures.span in
    let r = row-uncalled c.args.task.holds _ t (c.requires _ t) (ap not c.if-not-marks-f.true) b c.opening_line.ensures in
    search-off _ _ _ c.loop-f.invariant r refl t

pub loop-f-preserved : goal.loop-f-preserved
loop-f-preserved c =
    let t = c.loop-f-test.true in
    search-on _ _ _ c.loop-f.invariant (row-called c.args.task.holds _ t (c.requires _ t) (ap not c.if-not-marks-f.false)) refl t

pub loop-f-init : goal.loop-f-init
loop-f-init c = calls-start _ c.args.task.header

pub returns : goal.returns
returns c = search-end _ _ _ c.loop-f.invariant c.loop-f-test.false
