-- A number as a set: its bits, counted from the lowest. A set is a word of 64 bits.
use Rattle.std.specs.Prelude.{ℕ, zero, suc, ◌-◌, ◌/◌, ◌%◌, ◌^◌, ◌≤◌, ◌<◌, Bool, List, ◌++◌, ◌≡◌, eqb, drop, replicate}
use Rattle.std.specs.Int.Bits.{bit_and, bit_or}

-- how many bits a set can have, and the set of all of them
abbrev pub set_bits : ℕ
set_bits = 64

abbrev pub all_bits : ℕ
all_bits = 2 ^ set_bits - 1

-- bit j of m, 0 or 1
unfoldable pub bit : ℕ → ℕ → ℕ
bit m zero = m % 2
bit m (suc j) = bit (m / 2) j

-- m has exactly the bits that pass the test
pub record Marks (t : ℕ → Bool) (m : ℕ) : Type 0 where
  pub same : (j : ℕ) → j < set_bits → eqb (bit m j) 1 ≡ t j

-- m has bit o alone
pub record Single (o m : ℕ) : Type 0 where
  pub there : bit m o ≡ 1
  pub others : (j : ℕ) → (j ≡ o → ⊥) → bit m j ≡ 0

-- m has the bits below k and no other
pub record Low (k m : ℕ) : Type 0 where
  pub below : (j : ℕ) → j < k → bit m j ≡ 1
  pub above : (j : ℕ) → k ≤ j → bit m j ≡ 0

-- r is one more than the highest bit of m, 0 where m is empty
pub record Top (m r : ℕ) : Type 0 where
  pub within : r ≤ set_bits
  pub above : (j : ℕ) → r ≤ j → j < set_bits → bit m j ≡ 0
  pub attained : (j : ℕ) → r ≡ suc j → bit m j ≡ 1

-- r is the lowest bit of m below k, k where there is none
pub record Lowest (m k r : ℕ) : Type 0 where
  pub within : r ≤ k
  pub below : (j : ℕ) → j < r → bit m j ≡ 0
  pub attained : r < k → bit m r ≡ 1

-- the bits of both sets; the bits of a that are not in b; what a point makes of the set m: it kills some bits and generates others
unfoldable pub union : ℕ → ℕ → ℕ
union a b = bit_or a b

unfoldable pub difference : ℕ → ℕ → ℕ
difference a b = bit_and a (all_bits - b)

unfoldable pub transfer : ℕ → ℕ → ℕ → ℕ
transfer m kills gens = union (difference m kills) gens

-- the first n entries of a table are 0
unfoldable pub cleared : ℕ → List ℕ → List ℕ
cleared n l = replicate n 0 ++ drop n l
