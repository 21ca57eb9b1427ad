-- The points before p pass.
use Prim.Native.Nat.{ℕ, ◌<◌}
use mathlib.Core.Bool.{Bool}
use mathlib.Core.Path.{◌≡◌}
use Rattle.reach.proofs.Rows.{Searching}
use Rattle.reach.proofs.first_failing.Given as goal

abbrev pub invariant-loop-p : goal.invariant-loop-p
invariant-loop-p g l =
    (test : ℕ → Bool) → ((p : ℕ) (b : Bool) → p < l.s.size → goal.F-post g l.passes p b → b ≡ test p) → Searching l.row l.f l.s test l.p
