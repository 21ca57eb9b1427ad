-- The tests in the order of the definition, then the write.
use native.Mathlib.Omega.{arith}
use mathlib.Core.Path.{refl, sym}
use Rattle.reader.proofs.Laws.{point-offset, point-many, point-put}
use Rattle.reader.proofs.Part.take.Goals as goal

pub returns-then-not-offset_fits : goal.returns-then-not-offset_fits
returns-then-not-offset_fits c = rw c.refusal.ensures (point-offset _ _ _ _ c.requires (sym c.if-not-offset_fits.ensures), refl)

pub returns-then-most-self : goal.returns-then-most-self
returns-then-most-self c = rw c.refusal-then-most-self.ensures (point-many _ _ _ _ c.requires (sym c.if-not-offset_fits.ensures) (omega arith), refl)

pub returns : goal.returns
returns c = point-put _ _ _ _ c.requires _ c.put_point.ensures (sym c.if-not-offset_fits.ensures) (omega arith) (omega arith)
