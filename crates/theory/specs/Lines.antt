-- The lines of a task. A place that names the line of a point or of a function's opening is that line of the text.
use Rattle.std.specs.Prelude.{if◌then◌else◌, ℕ, ◌+◌, ◌-◌, ◌*◌, ◌<◌, List, [], ◌∷◌, ◌++◌, map, ◌⊎◌, ◌≡◌, length, get_or}
use Rattle.std.proofs.Math.Option.{Option, some}
use Rattle.model.specs.declared.Line.{Line}
use Rattle.model.specs.declared.Line.TheVariants as line
use Rattle.model.specs.declared.Refusal.{Refusal}
use Rattle.model.specs.Basic.{joined}
use Rattle.model.specs.Task.{Func, Task, size, count, in_all, func, point, stackless, func_line, point_line}
use Rattle.model.specs.Refusal.{link_row, reach_row, call_row, load_row}

-- line n of a text, counted from 1
unfoldable pub line_at : List Line → ℕ → Line
line_at ls n = get_or ls (n - 1) line.Malformed

-- the lines of a function before it is closed, and all of them
abbrev pub open_lines : Func → List Line
open_lines x = line.Func x.frame ∷ map (λ p. line.At p) x.points

abbrev pub func_lines : Func → List Line
func_lines x = open_lines x ++ (line.Close ∷ [])

-- the stack line and those of the functions; a task without a stack has none
abbrev pub stack_lines : Task → List Line
stack_lines t = line.Stack t.stack ∷ joined func_lines t.funcs

abbrev pub task_lines : Task → List Line
task_lines t = if stackless t then [] else stack_lines t

-- the same by their numbers: line 1 is the stack, each function opens on its line, has its points behind it and is closed, and there are no other lines
pub record LinesOf (ls : List Line) (t : Task) : Type 0 where
  pub stack : 0 < count t → line_at ls 1 ≡ line.Stack t.stack
  pub opening : (f : ℕ) → f < count t → line_at ls (func_line t f) ≡ line.Func (func t f).frame
  pub points : (f p : ℕ) → f < count t → p < size (func t f) → line_at ls (point_line t f p) ≡ line.At (point (func t f) p)
  pub closing : (f : ℕ) → f < count t → line_at ls (point_line t f (size (func t f))) ≡ line.Close
  pub number : 0 < count t → length ls ≡ 1 + in_all t.funcs + 2 * count t
  pub none : count t ≡ 0 → length ls ≡ 0

-- this row refuses a point with r, and the place of r is the line of that point
pub record AtPoint (ls : List Line) (t : Task) (row : ℕ → ℕ → Option Refusal) (r : Refusal) : Type 0 where
  pub fn : ℕ
  pub at : ℕ
  pub in_task : fn < count t
  pub in_func : at < size (func t fn)
  pub refuses : row fn at ≡ some r
  pub place : r.place ≡ point_line t fn at
  pub line : line_at ls r.place ≡ line.At (point (func t fn) at)

-- row 12 refuses a function with r, and the place of r is the line on which it opens
pub record AtOpening (ls : List Line) (t : Task) (r : Refusal) : Type 0 where
  pub fn : ℕ
  pub in_task : fn < count t
  pub refuses : call_row t fn ≡ some r
  pub place : r.place ≡ func_line t fn
  pub line : line_at ls r.place ≡ line.Func (func t fn).frame

-- where rows 7 to 13 refuse: 7 to 10, 11 and 13 at a point, 12 at an opening
abbrev pub RefusedAt : List Line → Task → Refusal → Type 0
RefusedAt ls t r = AtPoint ls t (link_row t) r ⊎ AtPoint ls t (reach_row t) r ⊎ AtOpening ls t r ⊎ AtPoint ls t (load_row t) r
