-- By the verdict of the rows before those of the text.
use mathlib.Core.Path.{sym, ◌∙◌}
use native.Mathlib.Omega.{arith}
use Rattle.std.proofs.lemmas.Result.{err_from_is_err_and}
use Rattle.theory.proofs.Search.{verdict-none, verdict-some}
use Rattle.serving.proofs.Laws.{lent-refused, lent-judged}
use Rattle.serving.proofs.judge_lent.Goals as goal

pub returns-in_err-first : goal.returns-in_err-first
returns-in_err-first c asked rows l e p =
    let q = err_from_is_err_and c.from_residual.result c.from_residual.ensures.1 in
    rw (q.1, q.2) (lent-refused asked rows _ _ (verdict-some rows (sym e ∙ c.in_err-first.was)))

pub returns : goal.returns
returns c asked rows l e p =
    let n = verdict-none rows (sym e ∙ c.in_ok-first.was) in
    lent-judged asked rows _ n (omega arith) (p n) c.judge_text.ensures
