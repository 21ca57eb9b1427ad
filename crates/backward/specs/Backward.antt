-- The backward gen/kill data-flow problem over the points of one function. A set is a number of 64 bits; the set of a point has what the point
-- generates, and what comes from the points to which it leads, without what the point kills.
use Rattle.std.specs.Prelude.{ℕ, ◌<◌, Bool, List, ◌↔◌, ◌≡◌, eqb}
use Rattle.bits.specs.Bits.{set_bits, bit}
use Rattle.model.specs.Walk.{Met}
use Rattle.tables.specs.Tables.{item}
-- what the kernel is given
pub use Rattle.flow.specs.Flow.{Given}

-- point p has bit j of its table
abbrev pub has : List ℕ → ℕ → ℕ → Bool
has table j p = eqb (bit (item table p) j) 1

-- of the points below n: the set of p has bit j exactly where some walk from p meets a point that generates j, with no point before it that kills j
abbrev pub Solved : (ℕ → List ℕ) → ℕ → List ℕ → List ℕ → List ℕ → Type 0
Solved next n gens kills sets =
    (p j : ℕ) → p < n → j < set_bits → (bit (item sets p) j ≡ 1) ↔ Met next (has kills j) (has gens j) p
