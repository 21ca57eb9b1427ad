-- The answer is that of what is left after the points so far.
use native.Mathlib.Omega.{arith}
use Rattle.std.proofs.lemmas.Result.{err_from_is_err_and}
use Rattle.reader.proofs.Laws.{body-on, body-off, body-empty, body-close, body-other}
use Rattle.reader.proofs.read_points.Goals as goal

pub returns-in_err-take-in-Some-Point : goal.returns-in_err-take-in-Some-Point
returns-in_err-take-in-Some-Point c =
    let i = c.in-Some-Point in
    let p = err_from_is_err_and c.from_residual.result c.from_residual.ensures.1 in
    rw (p.1, p.2) (body-off c.loop-x.invariant _ _ (rw i.field-0-is at i.ensures) _ c.in_err-take-in-Some-Point.ensures)

pub loop-x-preserved : goal.loop-x-preserved
loop-x-preserved c =
    let i = c.in-Some-Point in
    body-on c.loop-x.invariant _ _ (rw i.field-0-is at i.ensures) c.in_ok-take-in-Some-Point.ensures

pub returns-then-part-eq0 : goal.returns-then-part-eq0
returns-then-part-eq0 c =
    let i = c.in-Some-Close in
    rw c.refusal.ensures (body-empty c.loop-x.invariant (rw i.field-0-is at i.ensures) c.if-part-eq0.true)

pub returns-in-Some-Close : goal.returns-in-Some-Close
returns-in-Some-Close c =
    let i = c.in-Some-Close in
    body-close c.loop-x.invariant (rw i.field-0-is at i.ensures) (omega arith) c.close.ensures

pub returns-in-None : goal.returns-in-None
returns-in-None c = rw c.refusal-in-None.ensures (body-other c.loop-x.invariant c.in-None.ensures)
