-- The functions that are left give the answer of all.
use native.Mathlib.Omega.{arith}
use mathlib.Core.Path.{refl}
use Rattle.std.proofs.lemmas.Result.{err_from_is_err_and}
use Rattle.theory.proofs.Search.{search-on, search-off, search-end}
use Rattle.links.proofs.Laws.{links-start}
use Rattle.links.proofs.link_rows.Goals as goal

pub loop-f-init : goal.loop-f-init
loop-f-init c = links-start c.args.task.holds

pub returns-in_err-func_rows : goal.returns-in_err-func_rows
returns-in_err-func_rows c =
    let p = err_from_is_err_and c.from_residual.result c.from_residual.ensures.1 in
    rw (p.1, p.2) (search-off _ _ _ c.loop-f.invariant c.in_err-func_rows.ensures refl (omega arith))

pub loop-f-preserved : goal.loop-f-preserved
loop-f-preserved c = search-on _ _ _ c.loop-f.invariant c.in_ok-func_rows.ensures refl (omega arith)

pub returns : goal.returns
returns c = search-end _ _ _ c.loop-f.invariant c.loop-f-test.false
