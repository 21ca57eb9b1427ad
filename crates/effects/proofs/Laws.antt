-- Laws of sets as tests of their bits, and of the effect of a point.
use Rattle.std.specs.Prelude.{if◌then◌else◌}
use Prim.Native.Nat.{ℕ, zero, suc, ◌≤◌, max}
use native.Mathlib.Omega.{arith}
use mathlib.Core.Path.{◌≡◌, refl, ap, sym, ◌∙◌}
use mathlib.Core.Bool.{Bool, true, false, ◌&&◌, ◌||◌}
use lib.Dec.{eqb, eqb-suc-zero, eqb-suc-suc}
use Rattle.bits.specs.Bits.{all_bits, bit, Marks, Single, union}
use Rattle.bits.proofs.Laws.{bit_le, bit-union, marks-none, marks-all, marks-single}

-- k blocks kept
pub kept-none : {k : ℕ} → k ≡ 0 → Marks (λ j. eqb (suc j) k) 0
kept-none e = record { same = λ j h. marks-none.same j h ∙ (sym (eqb-suc-zero j) ∙ ap (eqb (suc j)) (sym e)) }

pub kept-some : {k o m : ℕ} → k ≡ suc o → Single o m → Marks (λ j. eqb (suc j) k) m
kept-some {o = o} e s = record { same = λ j h. (marks-single s).same j h ∙ (sym (eqb-suc-suc j o) ∙ ap (eqb (suc j)) (sym e)) }

-- a set where a test holds
pub marks-if : {t : ℕ → Bool} {m : ℕ} {b c : Bool} → b ≡ c → Marks t m → Marks (λ j. c && t j) (if b then m else 0)
marks-if {t} {m} {b} e k = rw (← e) (at b)
  where
    at : (b : Bool) → Marks (λ j. b && t j) (if b then m else 0)
    at true = k
    at false = marks-none

pub all-if : {b c : Bool} → b ≡ c → Marks (λ j. c) (if b then all_bits else 0)
all-if {b} e = rw (← e) (at b)
  where
    at : (b : Bool) → Marks (λ j. b) (if b then all_bits else 0)
    at true = marks-all
    at false = marks-none

-- the bits of two sets
or-bits : (a b : ℕ) → a ≤ 1 → b ≤ 1 → eqb (max a b) 1 ≡ (eqb a 1 || eqb b 1)
or-bits zero zero h k = refl
or-bits zero (suc zero) h k = refl
or-bits zero (suc (suc b)) h k = absurd (omega arith)
or-bits (suc zero) zero h k = refl
or-bits (suc zero) (suc zero) h k = refl
or-bits (suc zero) (suc (suc b)) h k = absurd (omega arith)
or-bits (suc (suc a)) b h k = absurd (omega arith)

pub marks-union : {t u : ℕ → Bool} {a b : ℕ} → Marks t a → Marks u b → Marks (λ j. t j || u j) (union a b)
marks-union {a = a} {b = b} s r =
    record {
      same = λ j h.
          ap (λ (m : ℕ). eqb m 1) (bit-union a b j)
          ∙ (or-bits (bit a j) (bit b j) (bit_le a j) (bit_le b j) ∙ (λ i. s.same j h i || r.same j h i));
    }

-- a set that is empty
pub marks-empty : {m : ℕ} → m ≡ 0 → Marks (λ j. false) m
marks-empty e = rw e marks-none
