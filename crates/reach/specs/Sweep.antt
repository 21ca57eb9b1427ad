-- The sweep, step by step: what each of its functions does to the sets and the marks.
use Rattle.std.specs.Prelude.{ℕ, suc, ◌≤◌, ◌<◌, not, ◌⊎◌, ◌≡◌, T}
use mathlib.Core.List.{List, [], ◌∷◌, Memᴰ}
use Rattle.bits.specs.Bits.{set_bits, bit}
use Rattle.model.specs.declared.Point.{Point}
use Rattle.model.specs.Walk.{loaded, stored, is}
use Rattle.tables.specs.Tables.{item}
use Rattle.reach.specs.declared.sweep.Step.{Step}
use Rattle.reach.specs.declared.sweep.Step.TheVariants.{Fails, Falls, Leaves}

-- a has every bit of b
abbrev pub Covers : ℕ → ℕ → Type 0
Covers a b = (j : ℕ) → bit b j ≡ 1 → bit a j ≡ 1

-- no mark is above m
abbrev pub Most : ℕ → List ℕ → Type 0
Most m marks = (q : ℕ) → item marks q ≤ m

-- r has what m brings to point q, and what stands there if q has the mark
pub record UnionAt (mark q m : ℕ) (sets marks : List ℕ) (r : ℕ) : Type 0 where
  pub comes : Covers r m
  pub stays : item marks q ≡ mark → Covers r (item sets q)

-- point q is below p or has the mark; bit j stands at such a point
abbrev pub Known : ℕ → ℕ → List ℕ → ℕ → Type 0
Known mark p marks q = (q < p) ⊎ (item marks q ≡ mark)

abbrev pub SetStands : ℕ → ℕ → List ℕ → List ℕ → ℕ → ℕ → Type 0
SetStands mark p sets marks q j = Known mark p marks q × (bit (item sets q) j ≡ 1)

-- the set m has come from point p to the points ts; what stands at p and below it has stayed
pub record Arrived (mark p : ℕ) (ts : List ℕ) (m : ℕ) (sets marks sets' marks' : List ℕ) : Type 0 where
  pub low : (a : ℕ) → a ≤ p → item sets' a ≡ item sets a
  pub stays : (q j : ℕ) → SetStands mark (suc p) sets marks q j → SetStands mark (suc p) sets' marks' q j
  pub brought : (q j : ℕ) → Memᴰ q ts → bit m j ≡ 1 → SetStands mark (suc p) sets' marks' q j
  pub marked : (q : ℕ) → (item marks' q ≡ item marks q) ⊎ ((item marks' q ≡ mark) × Memᴰ q ts)

-- point x loads no offset of the set m, and hands on those that it does not store
pub record Passes (x : Point) (m next : ℕ) : Type 0 where
  pub clean : (j : ℕ) → T (is j (loaded x)) → bit m j ≡ 0
  pub keeps : (j : ℕ) → j < set_bits → T (not (is j (stored x))) → bit m j ≡ 1 → bit next j ≡ 1

-- what a step says: of a load or a store; of point x, number p of its function, which leads to the points ts
abbrev pub Accessed : Point → ℕ → Step → Type 0
Accessed x m Fails = Unit {0}
Accessed x m (Falls next) = Passes x m next
Accessed x m Leaves = ⊥

abbrev pub Stepped : ℕ → ℕ → List ℕ → Point → ℕ → List ℕ → List ℕ → List ℕ → List ℕ → Step → Type 0
Stepped mark p ts x m sets marks sets' marks' Fails = Unit {0}
Stepped mark p ts x m sets marks sets' marks' (Falls next) = Passes x m next × (ts ≡ suc p ∷ []) × (sets' ≡ sets) × (marks' ≡ marks)
Stepped mark p ts x m sets marks sets' marks' Leaves = Passes x m m × Arrived mark p ts m sets marks sets' marks'
