-- What a reader of the columns relies on, and the figures as they are read back.
use Rattle.std.specs.Prelude.{ℕ, ◌≤◌, ◌<◌, ◌≡◌, List, length}
use Rattle.model.specs.Limits.{most_stack, work_length}
use Rattle.model.specs.Task.{func}
use Rattle.model.specs.Figures as model
use Rattle.model.specs.Sheet as sheet
use Rattle.tables.specs.declared.Header.{Header}
use Rattle.tables.specs.declared.Span.{Span}
use Rattle.tables.specs.Tables.{span_at, task_of}
use Rattle.tables.specs.Valid.{Settled}
use Rattle.prices.specs.declared.Price.{Price}
use Rattle.prices.specs.Prices.{Small}
use Rattle.columns.specs.Columns.{high_column, dead_column, need_column, next_column, fill_column, longest_column, shortest_column, entry_column}
use Rattle.columns.specs.Columns.{chain_column, Funcs, FuncsLow, PointsLow}
use Rattle.columns.specs.Values.{most_chain}
use Rattle.readout.specs.declared.PointFigures.{PointFigures}
use Rattle.readout.specs.declared.FuncFigures.{FuncFigures}
use Rattle.readout.specs.Sheet.{sheet_in}

-- the tables hold an accepted task, D and d are its own, and every other number of the columns is in its range, so that no sum of prices is too large.
-- A reader promises of the sheet in the columns, and does not rely on what its numbers stand for
pub record Readable (price : Price) (w : List ℕ) (h : Header) : Type 0 where
  pub settled : Settled w h
  pub room : work_length ≤ length w
  pub small : Small price
  pub longest : Funcs (model.longest (task_of w h)) longest_column 0 h.funcs w
  pub shortest : Funcs (model.shortest (task_of w h)) shortest_column 0 h.funcs w
  pub entry : FuncsLow most_stack entry_column h.funcs w
  pub chain : FuncsLow most_chain chain_column h.funcs w
  pub high : PointsLow most_stack high_column h.funcs w
  pub dead : PointsLow most_stack dead_column h.funcs w
  pub need : PointsLow most_stack need_column h.funcs w
  pub next : PointsLow most_stack next_column h.funcs w
  pub fill : PointsLow most_stack fill_column h.funcs w

-- function f of such a task, which is s
pub record InFunc (price : Price) (w : List ℕ) (h : Header) (f : ℕ) (s : Span) : Type 0 where
  pub readable : Readable price w h
  pub low : f < h.funcs
  pub span : s ≡ span_at w f

-- the figures of a point as the definitions have them
abbrev pub figured_of : PointFigures → sheet.PointSheet
figured_of r =
    record {
      high = r.high;
      dead = r.dead;
      need = r.need;
      save = r.save;
      reload = r.reload;
      later = r.later;
      chain = r.chain;
      cost = r.cost;
      fill = r.fill;
    }

-- the figures of function f
unfoldable pub func_figures : Price → List ℕ → Header → ℕ → FuncFigures
func_figures price w h f =
    record {
      frame = (func (task_of w h) f).frame;
      shortest = model.shortest (task_of w h) f;
      longest = model.longest (task_of w h) f;
      spill = (sheet_in price w h).spill f;
      chain = (sheet_in price w h).chain f;
    }
