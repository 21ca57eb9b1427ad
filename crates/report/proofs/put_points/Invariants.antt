-- The loop's invariant: the lines of the first p points are put, and the sum of their costs is known.
use Rattle.report.specs.Report.{points_part, Adds}
use Rattle.report.proofs.put_points.Given as goal

abbrev pub invariant-loop-p : goal.invariant-loop-p
invariant-loop-p g l =
    Adds g.S.Sink.Puts (points_part l.sheet.price l.sheet.work.now l.sheet.header l.f l.p) l.initial.out l.total l.out
