-- The functions before f are clean, and no mark is above f.
use Prim.Native.Nat.{ℕ}
use Rattle.model.specs.Limits.{most_points}
use native.Mathlib.Omega.{arith}
use mathlib.Core.Path.{◌≡◌}
use borrow.Author.Count.{below_more}
use Rattle.reach.proofs.Answers.{all_same}
use Rattle.reach.proofs.sweep.clean_funcs.Goals as goal

pub loop-f-preserved : goal.loop-f-preserved
loop-f-preserved c =
    let k = c.points.ensures c.if-not-points.false in
    let l = c.loop-f in
    (k.1, record { within = omega arith; clean = below_more _ _ l.invariant.1.clean (rw (c.func.ensures.work, c.func.ensures.span) at k.0) })

pub loop-f-init : goal.loop-f-init
loop-f-init c = (λ q. omega (arith, all_same {A = ℕ} 0 most_points q), record { within = omega arith; clean = λ f h. absurd (omega arith) })

pub returns : goal.returns
returns c = let e : c.loop-f.f ≡ c.args.linked.task.header.funcs = omega arith in rw e at c.loop-f.invariant.1
