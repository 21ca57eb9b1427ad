-- A report stands in the output already; the line of a refusal is written over its front.
use Rattle.sheet.proofs.Laws.{report-answers, refusal-answers}
use Rattle.sheet.proofs.answer.Goals as goal

pub returns-in-Ok : goal.returns-in-Ok
returns-in-Ok c =
    let a = c.args in
    let p = report-answers a.text.now a.work.now a.output.now c.report-result.ensures.left c.in-Ok.is in
    record { answer = p.0; fits = p.1 }

pub returns-in-Err : goal.returns-in-Err
returns-in-Err c =
    let e = c.report-result.ensures.left in
    let w = c.put_refusal.ensures in
    let p = refusal-answers _ _ _ e c.in-Err.is w.line w.fits in
    record { answer = p.0; fits = p.1 }
