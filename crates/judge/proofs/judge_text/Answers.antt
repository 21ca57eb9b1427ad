-- A text is too long, or it cannot be read, or its task is judged.
use native.Mathlib.Omega.{arith}
use Rattle.std.proofs.lemmas.Result.{err_from_is_err_and}
use Rattle.judge.proofs.Laws.{too_long, unreadable, read-shape, rows-refuse, rows-accept}
use Rattle.judge.proofs.judge_text.Goals as goal

pub returns-then-text-gt-BYTES : goal.returns-then-text-gt-BYTES
returns-then-text-gt-BYTES c = too_long _ (omega (arith, c.if-text-gt-BYTES.true))

pub returns-in_err-h : goal.returns-in_err-h
returns-in_err-h c =
    let p = err_from_is_err_and c.from_residual.result c.from_residual.ensures.1 in
    rw (p.1, p.2) (unreadable _ (omega (arith, c.if-text-gt-BYTES.false)) c.in_err-h.ensures)

pub task_rows-requires : goal.task_rows-requires
task_rows-requires c = (c.in_ok-h.ensures.2, read-shape _ (omega (arith, c.if-text-gt-BYTES.false)) c.in_ok-h.ensures)

pub returns-in_err-task_rows : goal.returns-in_err-task_rows
returns-in_err-task_rows c =
    let r = c.from_residual-in_err-task_rows in
    let p = err_from_is_err_and r.result r.ensures.1 in
    rw (p.1, p.2) (rows-refuse _ (omega (arith, c.if-text-gt-BYTES.false)) c.in_ok-h.ensures c.in_err-task_rows.ensures)

pub returns : goal.returns
returns c = rows-accept _ (omega (arith, c.if-text-gt-BYTES.false)) c.in_ok-h.ensures c.in_ok-task_rows.ensures
