-- The contract is about marks below the limit, so a call of a function past it changes none of them.
use native.Mathlib.Omega.{arith}
use Rattle.reach.proofs.Called.{mark_set, mark-kept, mark-none}
use Rattle.reach.proofs.Points.{not_call}
use Rattle.reach.proofs.calls.mark.Goals as goal

pub returns-then-callee-lt-FUNCS : goal.returns-then-callee-lt-FUNCS
returns-then-callee-lt-FUNCS c f h = mark_set c.args.marks.now f c.in-Call.is (omega arith)

pub returns-else-callee-lt-FUNCS : goal.returns-else-callee-lt-FUNCS
returns-else-callee-lt-FUNCS c f h = mark-kept c.args.marks.now f c.in-Call.is (omega arith)

pub returns-in_default : goal.returns-in_default
returns-in_default c f h = mark-none c.args.marks.now f c.args.x (not_call c.args.x c.in_default.not-Call)
