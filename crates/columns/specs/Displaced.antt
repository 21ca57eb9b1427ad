-- An accepted task with D and d of its functions.
use Rattle.std.specs.Prelude.{ℕ, ◌≤◌, List, length}
use Rattle.model.specs.Limits.{work_length}
use Rattle.model.specs.Task.{Task}
use Rattle.model.specs.Figures as model
use Rattle.tables.specs.declared.Header.{Header}
use Rattle.tables.specs.Tables.{task_of}
use Rattle.tables.specs.Valid.{Settled}
use Rattle.columns.specs.Columns.{longest_column, shortest_column, Funcs}

-- the working space holds an accepted task and has room for all columns: what the figures are worked out from
pub record Ready (w : List ℕ) (h : Header) : Type 0 where
  pub settled : Settled w h
  pub room : work_length ≤ length w

-- D and d of the functions from m on and below n
pub record Displaced (t : Task) (m n : ℕ) (w : List ℕ) : Type 0 where
  pub longest : Funcs (model.longest t) longest_column m n w
  pub shortest : Funcs (model.shortest t) shortest_column m n w

-- the tables hold an accepted task, and the functions from f on have D and d
pub record Displacing (w : List ℕ) (h : Header) (f : ℕ) : Type 0 where
  pub ready : Ready w h
  pub away : Displaced (task_of w h) f h.funcs w
