-- Refusal 12 goes between what the functions that do not pass the sweep have.
use native.Mathlib.Omega.{arith}
use mathlib.Core.Path.{◌∙◌}
use Rattle.reach.proofs.Rows.{from_end, from-clean}
use Rattle.reach.proofs.walk_rows.Goals as goal

pub returns-then-clean-task : goal.returns-then-clean-task
returns-then-clean-task c =
    from_end _ c.clean_funcs-clean.result c.args.task.header.funcs _ (omega arith)
    ∙ from-clean c.args.task.holds c.clean_funcs-clean.ensures c.call_rows-calls.ensures

pub returns : goal.returns
returns c =
    c.solved_rows.ensures ∙ from-clean c.args.task.holds c.clean_funcs-clean.ensures c.call_rows-calls.ensures
