-- The count is the length of the report, which is small.
use native.Mathlib.Omega.{arith}
use Rattle.report.proofs.Limits.{report-small}
use Rattle.report.proofs.report_length.Goals as goal

pub put_lines-requires : goal.put_lines-requires
put_lines-requires c = omega (arith, report-small c.args.sheet.readable)

pub returns : goal.returns
returns c =
    let count = c.put_lines.ensures.count in
    (omega (arith, count), omega (arith, count, report-small c.args.sheet.readable))
