-- What an order has to obey so that it puts a list into one sequence, and what the first of a list in an order are.
use Rattle.std.specs.Prelude.{ℕ, min, Bool, ◌⊎◌, ◌≡◌, T, length}
use mathlib.Core.List.{List, [], ◌∷◌, Memᴰ}
use Rattle.model.specs.Basic.{larger_first}
use Rattle.model.specs.Sheet.{Record}
use Rattle.model.specs.Dearest.{placed_before}

-- a relation holds between each element of a list and every later one
abbrev pub Pairs : {A : Type 0} → (A → A → Type 0) → List A → Type 0
Pairs R [] = Unit {0}
Pairs R (x ∷ l) = ((y : _) → Memᴰ y l → R x y) × Pairs R l

-- a strict order that is total on elements that are apart
pub record StrictOrder {A : Type 0} (Apart : A → A → Type 0) (before : A → A → Bool) : Type 0 where
  pub transitive : (x y z : A) → T (before x y) → T (before y z) → T (before x z)
  pub irreflexive : (x : A) → T (before x x) → ⊥
  pub total : (x y : A) → Apart x y → T (before x y) ⊎ T (before y x)

-- k is the first n elements of l in an order, or all if there are fewer
pub record Firsts {A : Type 0} (Apart : A → A → Type 0) (before : A → A → Bool) (n : ℕ) (l k : List A) : Type 0 where
  pub size : length k ≡ min n (length l)
  -- each is an element of l, none stands twice, and each comes before all that follow it
  pub part : (x : A) → Memᴰ x k → Memᴰ x l
  pub once : Pairs Apart k
  pub rising : Pairs (λ x y. T (before x y)) k
  -- an element of l that is left out comes after each of k, so before none
  pub behind : (x y : A) → Memᴰ x k → Memᴰ y l → Memᴰ y k ⊎ T (before x y)
  pub none_before : (x y : A) → Memᴰ x k → Memᴰ y l → (Memᴰ y k → ⊥) → T (before y x) → ⊥

-- records of different points
abbrev pub Apart : Record → Record → Type 0
Apart x y = x.fn ≡ y.fn → x.at ≡ y.at → ⊥

-- the order that document 02 gives the dearest points in request 2: equal costs by function, then by point
abbrev pub dearer_before : Record → Record → Bool
dearer_before x y = larger_first x.figures.cost y.figures.cost (placed_before x y)
