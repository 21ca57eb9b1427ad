-- A report that the bound leaves room for is not too long; else its length decides.
use native.Mathlib.Omega.{arith}
use mathlib.Core.Path.{refl}
use lib.ListN.{length}
use Rattle.report.specs.Report.{report_in}
use Rattle.report.proofs.Limits.{report-most}
use Rattle.serving.proofs.Laws.{room-enough}
use Rattle.writing.proofs.reporting.report_row.Goals as goal

pub returns-then-most_length-room : goal.returns-then-most_length-room
returns-then-most_length-room c =
    let s = c.args.sheet in
    room-enough c.args.room (length (report_in s.price s.work.now s.header)) (omega (arith, report-most s.readable)) refl
