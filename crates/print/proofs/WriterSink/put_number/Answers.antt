-- A space, and the number behind it.
use Prim.Native.Nat.{◌<◌}
use native.Mathlib.Omega.{arith}
use mathlib.Core.Path.{refl}
use lib.ListN.{length, length-set}
use Rattle.print.proofs.Laws.{spaced-wrote}
use Rattle.print.proofs.WriterSink.put_number.Goals as goal

pub put_number-self-requires : goal.put_number-self-requires
put_number-self-requires c = simp length-set (omega (arith, c.requires))

pub returns : goal.returns
returns c =
    let s = c.args.self.now in
    let space : s.end < length s.out.now = omega (arith, c.requires) in
    record { same = refl; within = c.requires; wrote = spaced-wrote s.end space c.put_number-self.ensures }
