-- `scan::one` meets its contract.
use Rattle.std.proofs.Common.{length, sym, ◌∙◌, arith}
use Rattle.scan.proofs.Laws.{starts-fits, tail-fits, one-off, one_on}
use Rattle.scan.proofs.one.Goals as goal

pub returns-then-not-starts : goal.returns-then-not-starts
returns-then-not-starts c = one-off _ _ _ (sym c.if-not-starts.ensures)

pub slice_bounds-number_then-count : goal.slice_bounds-number_then-count
slice_bounds-number_then-count c = starts-fits _ _ (sym c.if-not-starts.ensures)

pub slice_bounds-number_then-start : goal.slice_bounds-number_then-start
slice_bounds-number_then-start c = starts-fits _ _ (sym c.if-not-starts.ensures)

pub returns-in_err-v : goal.returns-in_err-v
returns-in_err-v c = c.from_residual.ensures ∙ one_on _ _ _ _ (sym c.if-not-starts.ensures) c.in_err-v.ensures

pub overflow_add-result : goal.overflow_add-result
overflow_add-result c =
    let fits = tail-fits _ _ (length c.args.w.now) _ _ (starts-fits _ _ (sym c.if-not-starts.ensures)) (sym c.in_ok-v.ensures) in
    omega arith

pub returns : goal.returns
returns c = one_on _ _ _ _ (sym c.if-not-starts.ensures) c.in_ok-v.ensures
