-- What is judged is refused or written; then the space is cleared.
use native.Mathlib.Omega.{arith}
use Rattle.serving.proofs.Before.{priced-room}
use Rattle.serving.proofs.Laws.{first_passes, ready_at, write-left}
use Rattle.services.proofs.write.Goals as goal

pub judge_lent-judged-requires : goal.judge_lent-judged-requires
judge_lent-judged-requires g c = first_passes _ _ _ _ c.priced_row-first.ensures (priced-room _ _ _ _)

pub write_judged-result-requires : goal.write_judged-result-requires
write_judged-result-requires g c =
    ready_at _ _ _ _ _ _ (c.judge_lent-judged.ensures _ _ (omega arith) c.priced_row-first.ensures (priced-room _ _ _ _))

pub returns : goal.returns
returns g c =
    write-left (c.judge_lent-judged.ensures _ _ (omega arith) c.priced_row-first.ensures (priced-room _ _ _ _))
    c.write_judged-result.ensures c.clear.ensures
