-- The sheet in the columns is that of the task, so the bytes by it are those of the task.
use mathlib.Core.Path.{refl, ap, ◌∙◌}
use native.Mathlib.Omega.{arith}
use Rattle.model.specs.Refusal.{no_rows}
use Rattle.serving.proofs.Laws.{cleared-same, task-written}
use Rattle.writing.specs.Printing.{print_of}
use Rattle.writing.proofs.write_task.Goals as goal

pub returns : goal.returns
returns g c =
    let f = c.figure_task.ensures in
    let print = print_of g.P.Print.lines c.args.price in
    let e = g.met.P.Print.agrees _ _ _ _ f.0.agree ∙ ap print f.1 in
    task-written no_rows print refl e (cleared-same (omega arith) c.requires.1 f.2) c.write.ensures
