-- `scan::number` meets its contract. The loop's invariant: the first i bytes are digits, and v is their value.
use Rattle.std.proofs.Common.{◌≡◌, arith}
use Rattle.scan.proofs.Laws.{no_byte, first-byte, digits-stop, digits_more, digits-fit, value-first, value-more, below_more, below-most, taken_is}
use Rattle.scan.proofs.number.Goals as goal

pub returns-in_err-first : goal.returns-in_err-first
returns-in_err-first c = rw c.from_residual.ensures (no_byte _ c.in_err-first.ensures.value)

pub returns-then-v-gt9 : goal.returns-then-v-gt9
returns-then-v-gt9 c =
    let f = first-byte _ _ _ c.in_ok-first.ensures.value c.digit-v.ensures in
    digits-stop c.args.s.now 0 c.digit-v.result f.0 f.1 (omega arith) c.if-v-gt9.true

pub loop-i-init : goal.loop-i-init
loop-i-init c =
    let d = c.digit-v.result in
    let s = c.args.s.now in
    let f = first-byte _ _ _ c.in_ok-first.ensures.value c.digit-v.ensures in
    (omega arith, digits_more s 0 d f.0 f.1 (omega arith), value-first s d f.0 f.1 (omega arith))

pub loop-i-preserved : goal.loop-i-preserved
loop-i-preserved c =
    let d = c.digit-d in
    let s = c.args.s.now in
    let i = c.loop-i.i in (
      below_more c.loop-i.v d.result i (omega arith) (omega arith),
      omega (arith, digits_more s i d.result (omega arith) d.ensures (omega arith)),
      omega (arith, value-more s i d.result (omega arith) d.ensures (omega arith)),
    )

pub returns-then-d-gt9 : goal.returns-then-d-gt9
returns-then-d-gt9 c =
    let d = c.digit-d in
    let s = c.args.s.now in
    let f = first-byte _ _ _ c.in_ok-first.ensures.value c.digit-v.ensures in
    let stop = digits-stop s c.loop-i.i d.result (omega arith) d.ensures (omega arith) (omega arith) in
    taken_is s c.digit-v.result _ _ f.1 (omega arith) (omega arith) (omega arith) (omega arith) c.loop-i.invariant.2

pub returns : goal.returns
returns c =
    let s = c.args.s.now in
    let f = first-byte _ _ _ c.in_ok-first.ensures.value c.digit-v.ensures in
    let fit = digits-fit s in
    let i : c.most-end.result ≡ c.loop-i.i = omega arith in
    rw i (taken_is s c.digit-v.result _ _ f.1 (omega arith) (omega arith) (omega arith) (omega arith) c.loop-i.invariant.2)

pub overflow_mul-v : goal.overflow_mul-v
overflow_mul-v c = omega (arith, below-most c.loop-i.i (omega arith))

pub overflow_add-v : goal.overflow_add-v
overflow_add-v c = omega (arith, below-most c.loop-i.i (omega arith))
