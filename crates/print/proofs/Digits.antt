-- How long a line can be whose numbers have at most so many digits.
use Prim.Native.Nat.{ℕ, zero, suc, ◌+◌, ◌^◌, ◌≤◌, ◌<◌}
use native.Mathlib.Omega.{arith}
use mathlib.Core.List.{List, [], ◌∷◌, ◌++◌}
use lib.ListN.{length, length-append}
use Rattle.model.specs.Basic.{joined}
use Rattle.model.specs.Text.{bytes}
use Rattle.model.specs.Sheet.{decimal, line_text}
use Rattle.print.specs.Print.{spaced}
use Rattle.print.proofs.Laws.{length-line, digits-most}

-- each of these numbers has at most so many digits
abbrev pub Within : (numbers digits : List ℕ) → Type 0
Within [] [] = Unit {0}
Within [] (k ∷ ks) = ⊥
Within (m ∷ l) [] = ⊥
Within (m ∷ l) (zero ∷ ks) = ⊥
Within (m ∷ l) (suc k ∷ ks) = (m < 10 ^ suc k) × Within l ks

-- the bytes of so many digits, with a space before each number
unfoldable pub taken : List ℕ → ℕ
taken [] = 0
taken (k ∷ ks) = suc k + taken ks

digits-spaced : (l ks : List ℕ) → Within l ks → length (spaced l) ≤ taken ks
unfolding joined taken
digits-spaced [] [] h = omega arith
digits-spaced [] (k ∷ ks) h = absurd h
digits-spaced (m ∷ l) [] h = absurd h
digits-spaced (m ∷ l) (zero ∷ ks) h = absurd h
digits-spaced (m ∷ l) (suc k ∷ ks) h =
    omega (arith, length-append (bytes " " ++ decimal m) (spaced l), digits-most k m h.0, digits-spaced l ks h.1)

pub digits-line : (w l ks : List ℕ) → Within l ks → length (line_text w l) ≤ length w + taken ks + 2
digits-line w l ks h = omega (arith, length-line w l, digits-spaced l ks h)
