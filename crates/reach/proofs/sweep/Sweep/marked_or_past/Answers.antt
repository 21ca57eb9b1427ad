-- The test is the fact.
use native.Mathlib.Omega.{arith}
use borrow.Author.Tests.{eqb-true}
use Rattle.reach.proofs.sweep.Sweep.marked_or_past.Goals as goal

pub returns-then-q-n : goal.returns-then-q-n
returns-then-q-n c e h = omega (arith, eqb-true)
