-- What is kept, with what the functions from f on give, is what those from the first on give.
use mathlib.Core.Path.{refl, ◌∙◌}
use Rattle.model.specs.Limits.{most_points}
use Rattle.std.proofs.lemmas.Result.{err_from_is_err_and}
use Rattle.reach.proofs.Answers.{all_same}
use Rattle.reach.proofs.Rows.{from-off, from_on, from_end, reach-in, load-in}
use Rattle.reach.proofs.solved_rows.Goals as goal

pub invariant_of-scratch : goal.invariant_of-scratch
invariant_of-scratch c = record { no_gens = all_same 0 most_points }

pub returns : goal.returns
returns c = from_end _ _ _ _ c.loop-f-test.false ∙ c.loop-f.invariant

pub returns-in_err-first_unreached : goal.returns-in_err-first_unreached
returns-in_err-first_unreached c =
    let t = c.loop-f-test.true in
    let e = c.func-func.ensures in
    let a = rw e.work at c.solve.ensures in
    let r = reach-in c.args.linked.task.holds _ t e.span a c.in_err-first_unreached.ensures in
    let p = err_from_is_err_and c.from_residual.result c.from_residual.ensures.1 in
    rw (p.1, p.2) (from-off _ _ _ _ r t ∙ c.loop-f.invariant)

pub loop-f-preserved : goal.loop-f-preserved
loop-f-preserved c =
    let t = c.loop-f-test.true in
    let k = c.args.linked.task.holds in
    let e = c.func-func.ensures in
    let a = rw e.work at c.solve.ensures in
    let r = reach-in k _ t e.span a c.in_ok-first_unreached.ensures in
    let u = load-in k _ t e.span a (rw e.work at c.first_unstored.ensures) in
    from_on _ _ _ _ r u c.and-kept.ensures t ∙ c.loop-f.invariant

pub loop-f-init : goal.loop-f-init
loop-f-init c = refl
