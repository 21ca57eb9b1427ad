-- The figures are those of the function.
use mathlib.Core.Path.{refl}
use Rattle.report.proofs.Laws.{head-text}
use Rattle.report.proofs.func_numbers.Goals as goal

pub returns : goal.returns
returns c =
    let s = c.args.sheet in
    (head-text s.price s.work.now s.header c.args.f c.func-x.result c.func-x.ensures, refl)
