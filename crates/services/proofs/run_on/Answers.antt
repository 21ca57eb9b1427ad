-- What is judged is refused or run; then the space is cleared.
use native.Mathlib.Omega.{arith}
use Rattle.serving.proofs.Before.{priced-room}
use Rattle.serving.proofs.Laws.{first_passes, ready_at}
use Rattle.running.proofs.Events.{run-left}
use Rattle.services.proofs.run_on.Goals as goal

pub judge_lent-judged-requires : goal.judge_lent-judged-requires
judge_lent-judged-requires c = first_passes _ _ _ _ c.priced_row-first.ensures (priced-room _ _ _ _)

pub run_judged-result-requires : goal.run_judged-result-requires
run_judged-result-requires c =
    ready_at _ _ _ _ _ _ (c.judge_lent-judged.ensures _ _ (omega arith) c.priced_row-first.ensures (priced-room _ _ _ _))

pub returns : goal.returns
returns c =
    run-left (c.judge_lent-judged.ensures _ _ (omega arith) c.priced_row-first.ensures (priced-room _ _ _ _))
    c.run_judged-result.ensures c.clear.ensures
