-- `scan::two` meets its contract.
use Rattle.std.proofs.Common.{sym, ◌∙◌, arith}
use Rattle.scan.proofs.Laws.{tail-fits, one-fits, two-by, two-on}
use Rattle.scan.proofs.two.Goals as goal

pub returns-in_err-p : goal.returns-in_err-p
returns-in_err-p c = c.from_residual.ensures ∙ two-by _ _ _ _ _ c.in_err-p.ensures

pub slice_bounds-number_then-count : goal.slice_bounds-number_then-count
slice_bounds-number_then-count c =
    let a = c.args in
    rw (← c.in_ok-p.ensures) at (one-fits a.w.now a.m.now a.s.now)

pub slice_bounds-number_then-start : goal.slice_bounds-number_then-start
slice_bounds-number_then-start c =
    let a = c.args in
    rw (← c.in_ok-p.ensures) at (one-fits a.w.now a.m.now a.s.now)

pub returns-in_err-q : goal.returns-in_err-q
returns-in_err-q c = c.from_residual-in_err-q.ensures ∙ two-on _ _ _ _ _ _ _ c.in_ok-p.ensures c.in_err-q.ensures

pub overflow_add-result : goal.overflow_add-result
overflow_add-result c =
    let a = c.args in
    let fits = tail-fits _ _ _ _ _ (rw (← c.in_ok-p.ensures) at (one-fits a.w.now a.m.now a.s.now)) (sym c.in_ok-q.ensures) in
    omega arith

pub returns : goal.returns
returns c = two-on _ _ _ _ _ _ _ c.in_ok-p.ensures c.in_ok-q.ensures
