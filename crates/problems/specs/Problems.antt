-- What the functions of this crate are given and do.
use Rattle.std.specs.Prelude.{ℕ, ◌+◌, ◌-◌, ◌≤◌, ◌<◌, min, Bool, ◌&&◌, List, ◌↔◌, ◌≡◌, T, ltb, length}
use Rattle.std.proofs.Math.Option.{some}
use Rattle.model.specs.Basic.{lowest}
use Rattle.model.specs.Limits.{most_stack}
use Rattle.model.specs.Task.{Func, Task, size, func, point}
use Rattle.model.specs.Walk.{Met, leads, called, is_call, is_ensure, returns, some_walk}
use Rattle.model.specs.Figures as figure
use Rattle.bits.specs.Bits.{set_bits, bit, Marks}
use Rattle.tables.specs.declared.Span.{Span}
use Rattle.tables.specs.Tables.{item, point_at, func_in}
use Rattle.tables.specs.Valid.{Kept}
use Rattle.effects.specs.declared.Problem.{Problem}
use Rattle.effects.specs.Effects.{gives, takes}

-- the first n entries of l' are of the kind P, each by its place, and the others are those of l
pub record Filled (P : ℕ → ℕ → Type 0) (n : ℕ) (l l' : List ℕ) : Type 0 where
  pub each : (p : ℕ) → p < n → P p (item l' p)
  pub kept : Kept n l l'

-- m is what point p of a function gives, and what it takes
abbrev pub Gives : Problem → List ℕ → Span → List ℕ → ℕ → ℕ → Type 0
Gives problem w s column p m = Marks (gives problem s.frame (item column p) (point_at w (s.base + p))) m

abbrev pub Takes : Problem → List ℕ → Span → List ℕ → ℕ → ℕ → Type 0
Takes problem w s column p m = Marks (takes problem s.frame (item column p) (point_at w (s.base + p))) m

-- the first n numbers of a column are numbers of blocks; past its end a column has 0
abbrev pub Blocks : ℕ → List ℕ → Type 0
Blocks n column = (p : ℕ) → p < n → item column p ≤ most_stack

-- the sets of the points of x have what its walks meet: bit j where some walk from the point meets one that gives j, with none before it that
-- takes j
pub record Answered (problem : Problem) (x : Func) (column sets : List ℕ) : Type 0 where
  pub met : (p j : ℕ)
      → p < size x
      → j < set_bits
      → (bit (item sets p) j ≡ 1)
      ↔ Met (leads x) (λ q. takes problem x.frame (item column q) (point x q) j) (λ q. gives problem x.frame (item column q) (point x q) j) p

-- the lowest level that no call passes on some walk of x from point 0 to a return, where the column has the level of each callee; set_bits where no walk
-- comes to a return
abbrev pub calls_over : Func → List ℕ → ℕ → ℕ → Bool
calls_over x column v p = is_call x p && ltb v (item column p)

unfoldable pub lowest_level : Func → List ℕ → ℕ
lowest_level x column = lowest (λ v. some_walk x (calls_over x column v) (returns x) 0) set_bits

-- the scratch that a figure is lent has n entries at least
pub record Room (n : ℕ) (gens kills sets : List ℕ) : Type 0 where
  pub of_gens : n ≤ length gens
  pub of_kills : n ≤ length kills
  pub of_sets : n ≤ length sets

-- of it only the first n entries have changed
pub record Used (n : ℕ) (gens gens' kills kills' sets sets' : List ℕ) : Type 0 where
  pub of_gens : Kept n gens gens'
  pub of_kills : Kept n kills kills'
  pub of_sets : Kept n sets sets'

-- function g of the task t is the function s of the tables w, and the column has what is kept at each of its ensures
pub record KeptIn (w : List ℕ) (s : Span) (column : List ℕ) (t : Task) (g : ℕ) : Type 0 where
  pub same : func t g ≡ func_in w s
  pub at_ensures : (p : ℕ) → p < s.size → T (is_ensure (func_in w s) p) → item column p ≡ figure.kept t g p

-- function g of the task t is the function s of the tables w; called at an occupancy of at most e it starts with the value start, and the
-- column has for each call what its callee leaves of the cache
pub record CutIn (w : List ℕ) (s : Span) (start : ℕ) (column : List ℕ) (t : Task) (g e : ℕ) : Type 0 where
  pub same : func t g ≡ func_in w s
  pub first : start ≡ min t.stack (e + s.frame)
  pub at_calls : (p h : ℕ) → p < s.size → called (point (func_in w s) p) ≡ some h → item column p ≡ t.stack - figure.shortest t h

-- a walk reaches each point of the function s of the tables w
abbrev pub EachReached : List ℕ → Span → Type 0
EachReached w s = (p : ℕ) → p < s.size → T (figure.reached (func_in w s) p)
