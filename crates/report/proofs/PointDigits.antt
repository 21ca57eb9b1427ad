-- The digits of the numbers of a point's line, with once and without.
use Prim.Native.Nat.{ℕ, ◌<◌}
use native.Mathlib.Omega.{arith}
use mathlib.Core.Bool.{true, false}
use mathlib.Core.List.{List, [], ◌∷◌}
use Rattle.model.specs.Limits.{most_stack, most_points}
use Rattle.model.specs.Sheet.{PointSheet, once_of}
use Rattle.prices.specs.Prices.{most_price}
use Rattle.readout.proofs.Limits.{Low}
use Rattle.print.proofs.Digits.{Within}
use Rattle.report.specs.Report.{point_numbers}

-- the digits of the numbers of a point's line
abbrev pub point_digits : List ℕ
point_digits = 3 ∷ 2 ∷ 2 ∷ 2 ∷ 5 ∷ 5 ∷ 5 ∷ 7 ∷ 7 ∷ 5 ∷ []

-- and with once
abbrev pub once_digits : List ℕ
once_digits = 3 ∷ 2 ∷ 2 ∷ 2 ∷ 2 ∷ 2 ∷ 2 ∷ 7 ∷ 7 ∷ 2 ∷ 3 ∷ []

-- the line of a point with these figures
pub point-digits : (p : ℕ) (x : PointSheet) → p < most_points → Low most_price x → Within (point_numbers false p x) point_digits
point-digits p x m l =
    omega (arith, l.high, l.dead, l.need, l.save, l.reload, l.later, l.chain, l.cost, l.fill)

-- in blocks each move is at most the stack, and so once has three digits
pub once-digits : (p : ℕ) (x : PointSheet) → p < most_points → Low most_stack x → Within (point_numbers true p x) once_digits
unfolding once_of
once-digits p x m l =
    omega (arith, l.high, l.dead, l.need, l.save, l.reload, l.later, l.chain, l.cost, l.fill)
