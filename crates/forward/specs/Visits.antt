-- The worklist algorithm, step by step: what each function of the crate does to the sets and the worklist.
use Rattle.std.specs.Prelude.{ℕ, ◌^◌, ◌≤◌, ◌<◌, ◌≡◌, length, set, Option}
use mathlib.Core.List.{List, [], ◌∷◌, Memᴰ}
use Rattle.bits.specs.Bits.{set_bits, union, transfer}
use Rattle.tables.specs.Tables.{item}
use Rattle.worklist.specs.declared.Visit.{Visit}
use Rattle.worklist.specs.Worklist.{unseen, waiting, Worklist, worklist_of, added, last, taken, Pending, Took}

-- how far the visits have come: the set of each point, and the worklist with the states
pub record Progress : Type 0 where
  pub sets : List ℕ
  pub list : Worklist

abbrev pub progress_of : List ℕ → List Visit → List ℕ → ℕ → Progress
progress_of s t l c = record { sets = s; list = worklist_of t l c }

-- point q has the set m
abbrev pub with_set : ℕ → ℕ → Progress → Progress
with_set q m x = record { sets = set x.sets q m; list = x.list }

-- and is at the end of the worklist
abbrev pub added_with : ℕ → ℕ → Progress → Progress
added_with q m x = record { sets = set x.sets q m; list = added q x.list }

-- the last point of the worklist, and how far the visits have come once it is taken
abbrev pub last_of : Progress → ℕ
last_of x = last x.list

abbrev pub last_taken : Progress → Progress
last_taken x = record { sets = x.sets; list = taken x.list }

-- the set m is merged into that of point q, which becomes the union: it brings nothing new; q waits already; q goes into the worklist, since it
-- is seen for the first time or its set has grown
pub data Merged (q m : ℕ) (x : Progress) : Progress → Type 0 where
  rests : (item x.list.state q ≡ unseen → ⊥) → union (item x.sets q) m ≡ item x.sets q → Merged q m x x
  grows : item x.list.state q ≡ waiting → Merged q m x (with_set q (union (item x.sets q) m) x)
  adds : (item x.list.state q ≡ waiting → ⊥)
      → ((item x.list.state q ≡ unseen → ⊥) → union (item x.sets q) m ≡ item x.sets q → ⊥)
      → union (item x.sets q) m < 2 ^ set_bits
      → Merged q m x (added_with q (union (item x.sets q) m) x)

-- the set m is merged into those of the points to which a point leads, the first of two last
pub data Propagated (m : ℕ) : List ℕ → Progress → Progress → Type 0 where
  none : {x : Progress} → Propagated m [] x x
  one : {q : ℕ} {x y : Progress} → Merged q m x y → Propagated m (q ∷ []) x y
  two : {q r : ℕ} {x y z : Progress} → Merged r m x y → Merged q m y z → Propagated m (q ∷ r ∷ []) x z

-- what leaves point p
abbrev pub leaving : List ℕ → List ℕ → Progress → ℕ → ℕ
leaving gens kills x p = transfer (item x.sets p) (item kills p) (item gens p)

-- the last point of the worklist has been visited; visits, one after the other
pub record Visited (next : ℕ → List ℕ) (gens kills : List ℕ) (x y : Progress) : Type 0 where
  pub merges : Propagated (leaving gens kills x (last_of x)) (next (last_of x)) (last_taken x) y

pub data Visits (next : ℕ → List ℕ) (gens kills : List ℕ) (x : Progress) : Progress → Type 0 where
  none : Visits next gens kills x x
  more : {y z : Progress} → Visits next gens kills x y → 0 < y.list.count → Visited next gens kills y z → Visits next gens kills x z

-- a step has led to sets and a worklist, and then the last point of the worklist is taken, where it has one
pub record Onward (Step : Progress → Type 0) (x : Progress) (p : Option ℕ) : Type 0 where
  pub list : Worklist
  pub step : Step (record { sets = x.sets; list = list })
  pub took : Took list x.list p

-- of a function of n points: there is a set for each, and the worklist holds those that wait, never more than most_points and none twice
pub record Listed (n : ℕ) (x : Progress) : Type 0 where
  pub sets_long : n ≤ length x.sets
  pub pending : Pending n x.list

-- what a merge requires: of point q, and of each of the points l
pub record Mergeable (q : ℕ) (x : Progress) : Type 0 where
  pub n : ℕ
  pub below : q < n
  pub list : Listed n x

pub record MergeableAll (l : List ℕ) (x : Progress) : Type 0 where
  pub n : ℕ
  pub inside : (q : ℕ) → Memᴰ q l → q < n
  pub list : Listed n x
