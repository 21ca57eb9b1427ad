-- A number in decimal: the digits computed are enough for every number, there is at least one, and they are read back as that number.
use Prim.Native.Nat.{ℕ, zero, suc, ◌+◌, ◌-◌, ◌*◌, ◌/◌, ◌%◌, ◌≤◌, ◌<◌}
use mathlib.Core.Path.{◌≡◌, refl, ap, ◌∙◌}
use mathlib.Core.List.{List, [], ◌∷◌, ◌++◌}
use native.Mathlib.Omega.{arith}
use native.Mathlib.Decide.{dec_lt}
use lib.ListN.{length, length-append}
use borrow.Author.Tests.{lt-ltb, le-ltb}
use Rattle.model.specs.Text.{value}
use Rattle.model.specs.Sheet.{decimal_to, decimal}

-- more digits than the number has change nothing
decimal-more : (n k m : ℕ) → m < n → m < k → decimal_to n m ≡ decimal_to k m
unfolding decimal_to
decimal-more zero k m h i = absurd (omega arith)
decimal-more (suc n) zero m h i = absurd (omega arith)
decimal-more (suc n) (suc k) m h i =
    elim (dec_lt m 10) [
      | yes l ↦ rw (lt-ltb m 10 l)
      | no l ↦
          let g : 10 ≤ m = omega arith in
          rw (le-ltb m 10 g) (ap (λ (d : List ℕ). d ++ ((48 + m % 10) ∷ [])) (decimal-more n k (m / 10) (omega arith) (omega arith)))
    ]

-- one digit, or the digits of a tenth and the last digit
pub decimal-small : (m : ℕ) → m < 10 → decimal m ≡ (48 + m) ∷ []
unfolding decimal decimal_to
decimal-small m h = rw (lt-ltb m 10 h)

pub decimal-large : (m : ℕ) → 10 ≤ m → decimal m ≡ decimal (m / 10) ++ ((48 + m % 10) ∷ [])
unfolding decimal decimal_to
decimal-large m h =
    rw (le-ltb m 10 h) (ap (λ (d : List ℕ). d ++ ((48 + m % 10) ∷ [])) (decimal-more m (suc (m / 10)) (m / 10) (omega arith) (omega arith)))

value-last : (a : ℕ) (l : List ℕ) (d : ℕ) → value a (l ++ (d ∷ [])) ≡ value a l * 10 + (d - 48)
unfolding value
value-last a [] d = refl
value-last a (b ∷ l) d = value-last (a * 10 + (b - 48)) l d

-- the digits of a number are read as that number
value-to : (n m : ℕ) → m < n → value 0 (decimal m) ≡ m
unfolding value
value-to zero m h = absurd (omega arith)
value-to (suc n) m h =
    elim (dec_lt m 10) [
      | yes l ↦ rw (decimal-small m l) (omega arith)
      | no l ↦
          let i = value-to n (m / 10) (omega arith) in
          rw (decimal-large m (omega arith), value-last 0 (decimal (m / 10)) (48 + m % 10), i) (omega arith)
    ]

pub decimal-value : (m : ℕ) → value 0 (decimal m) ≡ m
decimal-value m = value-to (suc m) m (omega arith)

-- the length of a number in decimal
pub length-small : (m : ℕ) → m < 10 → length (decimal m) ≡ 1
length-small m h = ap length (decimal-small m h)

pub length-large : (m : ℕ) → 10 ≤ m → length (decimal m) ≡ length (decimal (m / 10)) + 1
length-large m h = ap length (decimal-large m h) ∙ length-append (decimal (m / 10)) ((48 + m % 10) ∷ [])

-- a number has a digit
pub decimal-some : (m : ℕ) → 1 ≤ length (decimal m)
decimal-some m =
    elim (dec_lt m 10) [
      | yes h ↦ omega (arith, length-small m h)
      | no h ↦ omega (arith, length-large m (omega arith))
    ]
