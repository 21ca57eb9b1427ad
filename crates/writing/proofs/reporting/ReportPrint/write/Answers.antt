-- A report is short.
use native.Mathlib.Omega.{arith}
use Rattle.report.proofs.Limits.{report-small}
use Rattle.writing.proofs.reporting.ReportPrint.write.Goals as goal

pub overflow_cast-result : goal.overflow_cast-result
overflow_cast-result c = omega (arith, c.put_report-written.ensures.0, report-small c.args.sheet.readable)
