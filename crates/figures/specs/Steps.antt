-- How far the figures stand while they are worked out.
use Rattle.std.specs.Prelude.{ℕ, zero, suc, ◌+◌, ◌-◌, ◌*◌, ◌≤◌, ◌<◌, List, ◌≡◌}
use Rattle.model.specs.Limits.{most_in_all}
use Rattle.model.specs.Task.{Task, size, func}
use Rattle.model.specs.Walk.{calls}
use Rattle.model.specs.Figures as model
use Rattle.tables.specs.declared.Header.{Header}
use Rattle.tables.specs.declared.Span.{Span}
use Rattle.tables.specs.Tables.{item, base_at, size_at, span_at, task_of}
use Rattle.prices.specs.declared.Price.{Price}
use Rattle.prices.specs.Prices.{price_of, Small}
use Rattle.problems.specs.Problems.{Filled}
use Rattle.columns.specs.Columns.{high_column, longest_column, entry_column, chain_column, Points, Changed}
use Rattle.columns.specs.Displaced.{Ready, Displaced}
use Rattle.columns.specs.Values.{raised_by}

-- a figure that each point has in a column
pub data Figure : Type 0 where
  High : Figure
  Dead : Figure
  Need : Figure
  Next : Figure
  Fill : Figure

-- what it is; the index of its column among those of the points, and how many these are
abbrev pub figure_of : Figure → Task → ℕ → ℕ → ℕ
figure_of High t f p = model.high t f p
figure_of Dead t f p = model.dead (func t f) p
figure_of Need t f p = model.need (func t f) p
figure_of Next t f p = model.kept_next t f p
figure_of Fill t f p = model.fill t f p

abbrev pub index_of : Figure → ℕ
index_of High = 0
index_of Dead = 1
index_of Need = 2
index_of Next = 3
index_of Fill = 4

abbrev pub point_columns : ℕ
point_columns = 5

abbrev pub column_of : Figure → ℕ
column_of which = high_column + most_in_all * index_of which

-- the first n numbers of l' are the figure of the points of function f, and the others are those of l
pub record Figures (which : Figure) (t : Task) (f n : ℕ) (l l' : List ℕ) : Type 0 where
  pub filled : Filled (λ p v. v ≡ figure_of which t f p) n l l'

-- the largest over the points of the functions below n that call g
unfoldable pub so_far : Task → (ℕ → ℕ → ℕ) → ℕ → ℕ → ℕ
so_far t figure zero g = 0
so_far t figure (suc n) g = raised_by (calls (func t n) g) (figure n) (size (func t n)) (so_far t figure n g)

-- the column at a has for each function below n the largest over its callers below f
pub record Gathered (t : Task) (figure : ℕ → ℕ → ℕ) (a n f : ℕ) (w : List ℕ) : Type 0 where
  pub each : (g : ℕ) → g < n → item w (a + g) ≡ so_far t figure f g

-- what a caller f brings to the chain of the function that its point p calls
abbrev pub chain_figure : Price → Task → ℕ → ℕ → ℕ
chain_figure price t f p = model.chain (price_of price) t f + price_of price (model.kept t f (suc p))

-- each function has the chain along its callers below f
abbrev pub ChainedTo : Price → List ℕ → Header → ℕ → Type 0
ChainedTo price w h f = Gathered (task_of w h) (chain_figure price (task_of w h)) chain_column h.funcs f w

-- of the n functions of t, those below f have all figures but the chain, and function f has those whose index is k or more
pub record FiguredTo (t : Task) (n f k : ℕ) (w : List ℕ) : Type 0 where
  pub away : Displaced t 0 n w
  pub entry : Gathered t (model.high t) entry_column n f w
  pub below : (which : Figure) → Points (figure_of which t) (column_of which) f w
  pub own : (which : Figure) → k ≤ index_of which → (p : ℕ) → p < size_at w f → item w (column_of which + base_at w f + p) ≡ figure_of which t f p

pub record Worked (w : List ℕ) (h : Header) (f k : ℕ) : Type 0 where
  pub ready : Ready w h
  pub stands : FiguredTo (task_of w h) h.funcs f k w

-- the functions below f have all figures, and have raised the chain and E of those that they call
pub record Done (price : Price) (w : List ℕ) (h : Header) (f : ℕ) : Type 0 where
  pub worked : Worked w h f point_columns
  pub chained : ChainedTo price w h f
  pub small : Small price

-- w' is w but for the columns of the points
abbrev pub OnlyPoints : List ℕ → List ℕ → Type 0
OnlyPoints w w' = Changed high_column (longest_column - high_column) w w'

-- function f is being worked on
pub record Working (w : List ℕ) (h : Header) (f k : ℕ) : Type 0 where
  pub worked : Worked w h f k
  pub below : f < h.funcs

-- and is s
pub record WorkingOn (w : List ℕ) (h : Header) (f k : ℕ) (s : Span) : Type 0 where
  pub begun : Working w h f k
  pub same : s ≡ span_at w f
