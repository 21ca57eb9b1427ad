-- The rounds: what holds of the table of sets on the way to the answer, and what a round does to it.
use Rattle.std.specs.Prelude.{ℕ, ◌-◌, ◌^◌, ◌≤◌, ◌<◌, ◌≡◌, Bool, true, false, length}
use mathlib.Core.List.{List, [], ◌∷◌, Memᴰ}
use Rattle.bits.specs.Bits.{set_bits, bit, union, transfer}
use Rattle.model.specs.Walk.{Met}
use Rattle.tables.specs.Tables.{item, sum}
use Rattle.tables.specs.Valid.{Kept}
use Rattle.backward.specs.Backward.{has}

-- the union of the sets of these points
unfoldable pub joined : List ℕ → List ℕ → ℕ
joined sets [] = 0
joined sets (q ∷ l) = union (item sets q) (joined sets l)

-- the set that the sets of its leads make of point p: what they have and p does not kill, and what p generates
abbrev pub set_at : (ℕ → List ℕ) → List ℕ → List ℕ → List ℕ → ℕ → ℕ
set_at next gens kills sets p = transfer (joined sets (next p)) (item kills p) (item gens p)

-- the sets of these points are there
abbrev pub There : List ℕ → List ℕ → Type 0
There l sets = (q : ℕ) → Memᴰ q l → q < length sets

-- how much the first n sets can still grow
unfoldable pub cost : ℕ → List ℕ → ℕ
cost n sets = sum (λ p. 2 ^ set_bits - item sets p) n

module _ (next : ℕ → List ℕ) (gens kills : List ℕ) (n : ℕ) where
  -- sets on the way to the answer: each bit is met, and is among those that the sets of the leads make
  pub record Right (sets : List ℕ) : Type 0 where
    pub met : (p j : ℕ) → p < n → j < set_bits → bit (item sets p) j ≡ 1 → Met next (has kills j) (has gens j) p
    pub rises : (p j : ℕ) → p < n → j < set_bits → bit (item sets p) j ≤ bit (set_at next gens kills sets p) j

  -- a round has passed the points from p on. A round that has changed a set has made it larger; after one that has not, each set is what the
  -- sets of its leads make it
  pub record Round (p : ℕ) (first : List ℕ) (changed : Bool) (sets : List ℕ) : Type 0 where
    pub right : Right sets
    pub kept : Kept n first sets
    pub grows : cost n sets ≤ cost n first
    pub changes : changed ≡ true → cost n sets < cost n first
    pub rests : changed ≡ false → (q : ℕ) → p ≤ q → q < n → set_at next gens kills sets q ≡ item sets q
