-- The points before i have marked the functions that they call.
use Prim.Native.Nat.{ℕ, ◌<◌}
use mathlib.Core.Path.{◌≡◌}
use Rattle.model.specs.Basic.{any, up_to}
use Rattle.model.specs.Limits.{most_funcs}
use Rattle.reach.specs.Calls.{calls_at, mark_of}
use Rattle.reach.proofs.calls.mark_calls.Given as goal

abbrev pub invariant-loop-i : goal.invariant-loop-i
invariant-loop-i l = (f : ℕ) → f < most_funcs → mark_of l.marks f ≡ any (calls_at l.task.work.now f) (up_to l.i)
