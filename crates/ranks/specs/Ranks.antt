-- The highest ranks of those met so far, in a list of at most ten.
use Rattle.std.specs.Prelude.{ℕ, ◌≤◌, min, max, Bool, List, [], ◌∷◌, ltb, take}
use Rattle.std.specs.Coded.{Unit-prop, le_prop}
use Rattle.model.specs.Limits.{most_dearest}
use Rattle.model.specs.Basic.{sorted_onto}
use Rattle.theory.specs.Order.{Pairs}

-- the higher rank goes first
abbrev pub higher : ℕ → ℕ → Bool
higher a b = ltb b a

-- from the highest on
abbrev pub Falling : List ℕ → Type 0
Falling l = Pairs (λ a b. b ≤ a) l

-- in one way at most, so that a struct can carry it
pub falling_prop : (l : List ℕ) → IsProp (Falling l)
falling_prop [] = Unit-prop
falling_prop (x ∷ l) = Prim.hlevel (le_prop, falling_prop l)

-- the ten highest of those of l and of the ranks r, which are met after them
unfoldable pub best : List ℕ → List ℕ → List ℕ
best l r = take most_dearest (sorted_onto higher l r)

-- y goes down a list: each place keeps the higher one, and the lower one goes on
unfoldable pub sunk : ℕ → List ℕ → List ℕ
sunk y [] = []
sunk y (x ∷ l) = max x y ∷ sunk (min x y) l
