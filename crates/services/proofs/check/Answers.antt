-- The verdict is that of the judgement; then the space is cleared.
use native.Mathlib.Omega.{arith}
use Rattle.std.proofs.Common.{Err, ap, ◌∙◌}
use Rattle.std.proofs.lemmas.Result.{err_from_is_err_and}
use Rattle.serving.proofs.Before.{work-room}
use Rattle.serving.proofs.Laws.{first_passes}
use Rattle.services.proofs.Laws.{accepts, refuses, check-numbers}
use Rattle.services.proofs.check.Goals as goal

pub judge_lent-judged-requires : goal.judge_lent-judged-requires
judge_lent-judged-requires c = first_passes _ _ _ _ c.work_row-first.ensures (work-room _ _)

pub returns : goal.returns
returns c =
    let j = c.judge_lent-judged.ensures _ _ (omega arith) c.work_row-first.ensures (work-room _ _) in
    let e = accepts j c.clear.ensures c.in_ok-judged.was in
    record { left = e; numbers = check-numbers _ _ e }

pub returns-in_err-judged : goal.returns-in_err-judged
returns-in_err-judged c =
    let p = err_from_is_err_and c.from_residual.result c.from_residual.ensures.1 in
    let j = c.judge_lent-judged.ensures _ _ (omega arith) c.work_row-first.ensures (work-room _ _) in
    let e = refuses j c.clear.ensures c.in_err-judged.was (p.1 ∙ ap Err p.2) in
    record { left = e; numbers = check-numbers _ _ e }
