-- `scan::number_then` meets its contract.
use Rattle.std.proofs.Common.{sym, ◌∙◌}
use Rattle.scan.proofs.Laws.{number-absent, number-taken}
use Rattle.scan.proofs.number_then.Goals as goal

pub returns-in_err-v : goal.returns-in_err-v
returns-in_err-v c = c.from_residual.ensures ∙ number-absent _ _ c.in_err-v.ensures

pub returns-then-starts : goal.returns-then-starts
returns-then-starts c = number-taken _ _ _ _ c.requires c.in_ok-v.ensures _ (sym c.if-starts.ensures)

pub returns-else-starts : goal.returns-else-starts
returns-else-starts c = number-taken _ _ _ _ c.requires c.in_ok-v.ensures _ (sym c.if-starts.ensures)
