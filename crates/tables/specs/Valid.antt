-- When the tables hold a task, from the weakest fact to the strongest. proofs/Valid has the law that leads from each to the next.
use Rattle.std.specs.Prelude.{ℕ, ◌+◌, ◌≤◌, ◌<◌, ◌≡◌, T, length, drop}
use mathlib.Core.List.{List, Memᴰ}
use Rattle.model.specs.Limits.{most_stack, most_funcs, most_points, most_in_all}
use Rattle.model.specs.Task.{offset_fits}
use Rattle.model.specs.Walk.{leads}
use Rattle.model.specs.WellFormed.{WellFormed}
use Rattle.tables.specs.declared.Header.{Header}
use Rattle.tables.specs.declared.Span.{Span}
use Rattle.tables.specs.Layout.{tables_length}
use Rattle.tables.specs.Tables.{point_at, func_in, task_of, Stacked}

-- l' has the length of l and everything of it from entry n on
pub record Kept (n : ℕ) (l l' : List ℕ) : Type 0 where
  pub size : length l' ≡ length l
  pub past : drop n l' ≡ drop n l

-- the tables w hold a task with this header
pub record Holds (w : List ℕ) (h : Header) : Type 0 where
  pub room : tables_length ≤ length w
  pub stacked : Stacked w h.funcs h.points
  pub few : h.funcs ≤ most_funcs
  pub all : h.points ≤ most_in_all

-- the points of a function lie in the tables w
pub record Lies (w : List ℕ) (s : Span) : Type 0 where
  pub room : tables_length ≤ length w
  pub within : s.base + s.size ≤ most_in_all

-- the points of a function keep to its frame and lead only to one another: a kernel can follow its walks
pub record Fits (w : List ℕ) (s : Span) : Type 0 where
  pub lies : Lies w s
  pub some : 1 ≤ s.size
  pub small : s.size ≤ most_points
  pub frame : s.frame ≤ most_stack
  pub offsets : (p : ℕ) → p < s.size → T (offset_fits s.frame (point_at w (s.base + p)))
  pub inside : (p q : ℕ) → p < s.size → Memᴰ q (leads (func_in w s) p) → q < s.size

-- the tables w hold an accepted task: what every service but check starts from
pub record Settled (w : List ℕ) (h : Header) : Type 0 where
  pub holds : Holds w h
  pub formed : WellFormed (task_of w h)
