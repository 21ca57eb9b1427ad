-- The answer is that of what is left after the functions in the tables.
use Rattle.reader.proofs.Laws.{funcs-first, funcs-none, funcs-task}
use Rattle.reader.proofs.read_funcs.Goals as goal

pub loop-at-init : goal.loop-at-init
loop-at-init c = funcs-first _ _ _ _ c.requires

pub returns-then-h-eq0 : goal.returns-then-h-eq0
returns-then-h-eq0 c = rw c.refusal.ensures (funcs-none c.loop-at.invariant c.loop-at-test.false c.if-h-eq0.true)

pub returns : goal.returns
returns c = funcs-task c.loop-at.invariant c.loop-at-test.false c.if-h-eq0.false
