-- `scan::most` meets its contract.
use Rattle.std.proofs.Common.{arith}
use Rattle.scan.proofs.Laws.{limit-zero, limit-other}
use Rattle.scan.proofs.most.Goals as goal

pub returns-then-v-eq0 : goal.returns-then-v-eq0
returns-then-v-eq0 c = omega (arith, limit-zero c.args.v (omega arith))

pub returns-else-v-eq0 : goal.returns-else-v-eq0
returns-else-v-eq0 c = omega (arith, limit-other c.args.v (omega arith))
