-- `print::number_length` meets its contract. The loop's invariant: k - 1 digits are counted, and those of rest are left.
use Prim.Native.Nat.{◌/◌}
use native.Mathlib.Omega.{arith}
use Rattle.theory.proofs.Decimal.{length-small, length-large, decimal-some}
use Rattle.print.proofs.Laws.{decimal-most}
use Rattle.print.proofs.number_length.Goals as goal

pub returns-then-n-lt10 : goal.returns-then-n-lt10
returns-then-n-lt10 c = omega (arith, length-small c.args.n (omega arith))

pub returns-then-n-lt100 : goal.returns-then-n-lt100
returns-then-n-lt100 c =
    let n = c.args.n in
    omega (arith, length-large n (omega arith), length-small (n / 10) (omega arith))

pub loop-rest-init : goal.loop-rest-init
loop-rest-init c = omega arith

pub overflow_add-k : goal.overflow_add-k
overflow_add-k c = omega arith

pub loop-rest-smaller : goal.loop-rest-smaller
loop-rest-smaller c = omega arith

pub loop-rest-preserved : goal.loop-rest-preserved
loop-rest-preserved c =
    let m = c.loop-rest.rest in
    omega (arith, length-large m (omega arith), decimal-some (m / 10), decimal-most c.args.n (omega arith))

pub returns : goal.returns
returns c = omega (arith, length-small c.loop-rest.rest (omega arith))
