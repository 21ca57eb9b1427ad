-- The number of the function that a point calls.
use Prim.Native.Nat.{ℕ, ◌<◌}
use native.Mathlib.Omega.{arith}
use mathlib.Core.Option.{Option, none, some}
use mathlib.Core.Path.{◌≡◌, sym}
use lib.Dec.{eqb}
use borrow.Author.Tests.{ne_eqb}
use Rattle.model.specs.Limits.{most_funcs}
use Rattle.model.specs.Walk.{is}
use Rattle.points.specs.Points.{numbered}

-- function f is the one that is called
pub is_number : (o : Option ℕ) (f g : ℕ) → g ≡ numbered o → f < most_funcs → is f o ≡ eqb f g
is_number none f g e h = sym (ne_eqb f g (λ d. omega arith))
is_number (some n) f g e h = rw e
