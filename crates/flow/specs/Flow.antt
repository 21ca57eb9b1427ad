-- A data-flow problem over the points of one function: what both kernels are given. A set is a number of 64 bits.
use Rattle.std.specs.Prelude.{ℕ, ◌≤◌, ◌<◌, length}
use mathlib.Core.List.{List, [], ◌∷◌, Memᴰ}
use Rattle.tables.specs.declared.Span.{Span}
use Rattle.tables.specs.Valid.{Fits}
use Rattle.flow.specs.declared.Next.{Next}
use Rattle.flow.specs.declared.Next.TheVariants.{Nowhere, To, Fork}

-- points below n lead only to points below n
abbrev pub LeadsWithin : (ℕ → List ℕ) → ℕ → Type 0
LeadsWithin next n = (p q : ℕ) → p < n → Memᴰ q (next p) → q < n

-- a function whose walks a kernel can follow, and for each of its points the bits that it generates and those that it kills
pub record Given (w : List ℕ) (s : Span) (gens kills : List ℕ) : Type 0 where
  pub fits : Fits w s
  pub gens_long : s.size ≤ length gens
  pub kills_long : s.size ≤ length kills

-- the points to which a point leads, in their order
abbrev pub targets : Next → List ℕ
targets Nowhere = []
targets (To q) = q ∷ []
targets (Fork q r) = q ∷ r ∷ []
