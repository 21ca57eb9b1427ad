-- The forward gen/kill data-flow problem over the points of one function. A set is a number of 64 bits; what leaves a point is its set without
-- what it kills, and with what it generates.
use Rattle.std.specs.Prelude.{ℕ, ◌≤◌, ◌<◌, ◌≡◌, ◌↔◌}
use mathlib.Core.List.{List, Memᴰ}
use Rattle.bits.specs.Bits.{set_bits, bit}
use Rattle.model.specs.Walk.{Walk, never}
use Rattle.tables.specs.Tables.{item}
-- what the kernel is given
pub use Rattle.flow.specs.Flow.{Given}

-- some walk from point 0 carries bit j to a point: the entry has the bit, or a point of the walk generates it, and no later one kills it
pub data Carried (next : ℕ → List ℕ) (entry : ℕ) (gens kills : ℕ → ℕ) (j : ℕ) : ℕ → Type 0 where
  enter : bit entry j ≡ 1 → Carried next entry gens kills j 0
  given : {p q : ℕ} → Walk next never 0 p → bit (gens p) j ≡ 1 → Memᴰ q (next p) → Carried next entry gens kills j q
  kept : {p q : ℕ} → Carried next entry gens kills j p → bit (kills p) j ≡ 0 → Memᴰ q (next p) → Carried next entry gens kills j q

-- of the points below n, state has 1 for those that a walk from point 0 reaches and 0 for the others, and sets has the bits that such a walk
-- carries to each
pub record Solved (next : ℕ → List ℕ) (n entry : ℕ) (gens kills sets state : List ℕ) : Type 0 where
  pub reached : (p : ℕ) → p < n → (item state p ≡ 1) ↔ Walk next never 0 p
  pub marked : (p : ℕ) → p < n → item state p ≤ 1
  pub carried : (p j : ℕ) → p < n → j < set_bits → bit (item sets p) j ≡ 1 → Carried next entry (item gens) (item kills) j p
  pub held : (p j : ℕ) → p < n → j < set_bits → Carried next entry (item gens) (item kills) j p → bit (item sets p) j ≡ 1
