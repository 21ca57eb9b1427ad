-- The loop's invariant: the lines of the first f functions are put, and the sum of their costs is known.
use Rattle.report.specs.Report.{funcs_part, Adds}
use Rattle.report.proofs.put_funcs.Given as goal

abbrev pub invariant-loop-f : goal.invariant-loop-f
invariant-loop-f g l =
    Adds g.S.Sink.Puts (funcs_part l.sheet.price l.sheet.work.now l.sheet.header l.f) l.initial.out l.total l.out
