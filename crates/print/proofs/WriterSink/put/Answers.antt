-- The bytes are copied over those from the end on.
use mathlib.Core.Path.{refl}
use native.Mathlib.Omega.{arith}
use Rattle.print.proofs.Laws.{copied}
use Rattle.print.proofs.WriterSink.put.Goals as goal

pub returns : goal.returns
returns c =
    record {
      same = refl;
      within = omega (arith, c.requires);
      wrote = record { end = refl; buffer = copied _ _ c.args.bytes.now _ c.args.self.now.out.now c.copy_from_slice.ensures.after (omega arith) };
    }
