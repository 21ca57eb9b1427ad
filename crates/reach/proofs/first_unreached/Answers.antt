-- The marks that are looked at at once, and one by one.
use native.Mathlib.Omega.{arith}
use mathlib.Core.Path.{sym, ap}
use Rattle.model.specs.Rows.{row_verdict}
use Rattle.std.proofs.lemmas.List.{length-take-le}
use Rattle.reach.proofs.Rows.{failing-none, seen-front}
use Rattle.reach.proofs.first_unreached.Goals as goal

pub returns-then-all_reached : goal.returns-then-all_reached
returns-then-all_reached c =
    let marked = c.all_reached.ensures c.if-all_reached.true in
    sym (ap row_verdict (failing-none _ _ _ _ (λ p h. seen-front _ h (marked p (omega (arith, length-take-le c.args.s.size c.args.state.now c.requires.2))))))
