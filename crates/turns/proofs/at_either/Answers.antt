-- The point is that of the task.
use mathlib.Core.Path.{ap, sym, ◌∙◌}
use Rattle.model.specs.Refusal.{is_either}
use Rattle.turns.proofs.Given.{placed-few, placed-point, placed-is}
use Rattle.turns.proofs.at_either.Goals as goal

pub point_at-requires : goal.point_at-requires
point_at-requires c =
    let p = c.requires in (placed-point p.0 p.1 _ c.span_at-s.ensures, (placed-few p.0 p.1).1)

pub returns : goal.returns
returns c =
    let p = c.requires in
    c.is_either.ensures ∙ ap is_either (sym (placed-is p.0 p.1 _ _ c.span_at-s.ensures c.point_at.ensures))
