-- The report is written from the first byte on.
use borrow.Author.Rules.{rules}
use Rattle.report.specs.Report.{report_in}
use Rattle.print.proofs.Laws.{wrote-over}
use Rattle.report.proofs.put_report.Goals as goal

pub returns : goal.returns
returns c =
    let s = c.args.sheet in
    wrote-over (report_in s.price s.work.now s.header) c.args.output.now (search rules)
