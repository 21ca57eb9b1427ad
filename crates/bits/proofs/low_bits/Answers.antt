-- All ones for a whole word, and a power of two less one below that.
use native.Mathlib.Omega.{arith}
use lib.Pow.{pow_pos}
use Rattle.bits.specs.Bits.{set_bits}
use Rattle.bits.proofs.Laws.{bit-ones, shifted_one}
use Rattle.bits.proofs.low_bits.Goals as goal

pub overflow_sub-result : goal.overflow_sub-result
overflow_sub-result c = omega (arith, shifted_one c.args.k (omega arith), pow_pos c.args.k)

pub returns-then-k-eq-BITS : goal.returns-then-k-eq-BITS
returns-then-k-eq-BITS c = rw c.if-k-eq-BITS.true (bit-ones set_bits)

pub returns-else-k-eq-BITS : goal.returns-else-k-eq-BITS
returns-else-k-eq-BITS c = rw (shifted_one c.args.k (omega arith)) (bit-ones c.args.k)
