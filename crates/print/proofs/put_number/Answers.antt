-- One digit, two digits, or as many as there are.
use Prim.Native.Nat.{◌/◌}
use native.Mathlib.Omega.{arith}
use lib.ListN.{length-set}
use Rattle.theory.proofs.Decimal.{length-large, decimal-some}
use Rattle.print.proofs.Laws.{copied, wrote_one, wrote-two}
use Rattle.print.proofs.put_number.Goals as goal

pub bounds-out-at : goal.bounds-out-at
bounds-out-at c = omega (arith, decimal-some c.args.n)

pub returns-then-n-lt10 : goal.returns-then-n-lt10
returns-then-n-lt10 c =
    let a = c.args in
    wrote_one a.at a.n a.out.now (omega arith) (omega arith)

pub bounds-out-at-then-n-lt100 : goal.bounds-out-at-then-n-lt100
bounds-out-at-then-n-lt100 c =
    let n = c.args.n in
    omega (arith, length-large n (omega arith), decimal-some (n / 10))

pub bounds-out-at-then-n-lt100-2 : goal.bounds-out-at-then-n-lt100-2
bounds-out-at-then-n-lt100-2 c =
    let n = c.args.n in
    simp length-set (omega (arith, decimal-some n))

pub returns-then-n-lt100 : goal.returns-then-n-lt100
returns-then-n-lt100 c =
    let a = c.args in
    wrote-two a.at a.n a.out.now (omega arith) (omega arith) (omega arith)

pub returns : goal.returns
returns c =
    let a = c.args in
    let digits = c.number_length.ensures in
    record { end = omega (arith, digits); buffer = copied _ _ _ _ a.out.now c.put_digits.ensures (omega (arith, digits)) }
