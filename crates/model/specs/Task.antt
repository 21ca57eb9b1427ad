-- A task, and how the lines of a text are read into one (refusals 2 to 6).
use Rattle.std.specs.Prelude.{if◌then◌else◌, ℕ, suc, ◌+◌, ◌*◌, Bool, true, not, ◌&&◌, ◌||◌, List, [], ◌∷◌, ◌++◌, length, take, get_or, leb, ltb, eqb}
use Rattle.model.specs.declared.Point.{Point}
use Rattle.model.specs.declared.Point.TheVariants.{Load, Store, Call, Ensure, Goto, Either, Return}
use Rattle.model.specs.declared.Line.{Line}
use Rattle.model.specs.declared.Line.TheVariants as line
use Rattle.model.specs.declared.Refusal.{Refusal}
use Rattle.model.specs.declared.Row.TheVariants.{Form, StackSize, FrameSize, Offset, TooMany}
use Rattle.model.specs.Limits.{most_stack, most_funcs, most_points, most_in_all}
use Rattle.model.specs.Rows.{refuse}
use Rattle.model.specs.Basic.{sum_of}
use Rattle.model.specs.Text.{lines_of}

-- a function: its frame K and its points, counted from 0
pub record Func : Type 0 where
  pub frame : ℕ
  pub points : List Point

-- a task: the cache blocks S and its functions, counted from 0
pub record Task : Type 0 where
  pub stack : ℕ
  pub funcs : List Func

-- what a text is: refused, or a task
pub data Judged : Type 0 where
  refused : Refusal → Judged
  task : Task → Judged

-- how many points, how many functions, how many points in all of these functions
abbrev pub size : Func → ℕ
size x = length x.points

abbrev pub count : Task → ℕ
count t = length t.funcs

abbrev pub in_all : List Func → ℕ
in_all l = sum_of size l

-- function f of a task and point p of a function; past the end, an empty function and a return
abbrev pub empty : Func
empty = record { frame = 0; points = [] }

abbrev pub func : Task → ℕ → Func
func t f = get_or t.funcs f empty

abbrev pub point : Func → ℕ → Point
point x p = get_or x.points p Return

-- the line of function f's opening, and of its point p: each function has a line for each point and two more
unfoldable pub func_line : Task → ℕ → ℕ
func_line t f = 2 + 2 * f + in_all (take f t.funcs)

abbrev pub point_line : Task → ℕ → ℕ → ℕ
point_line t f p = func_line t f + 1 + p

-- a task without a stack: no functions (document 02, request 14)
abbrev pub without : Task
without = record { stack = 0; funcs = [] }

abbrev pub stackless : Task → Bool
stackless t = eqb (count t) 0

-- how far a text has been read
pub data Progress : Type 0 where
  start : Progress
  between : Task → Progress
  inside : Task → Func → Progress

pub data Step : Type 0 where
  stop : Refusal → Step
  goes : Progress → Step

-- the function with one point more, and the task with one function more
abbrev pub with_point : Func → Point → Func
with_point x p = record { frame = x.frame; points = x.points ++ (p ∷ []) }

abbrev pub with_func : Task → Func → Task
with_func t x = record { stack = t.stack; funcs = t.funcs ++ (x ∷ []) }

-- the offset of a load or store is below the frame K
abbrev pub offset_fits : ℕ → Point → Bool
offset_fits k (Load o) = ltb o k
offset_fits k (Store o) = ltb o k
offset_fits k (Call f) = true
offset_fits k (Ensure n) = true
offset_fits k (Goto p) = true
offset_fits k (Either p q) = true
offset_fits k Return = true

-- line number n where the text has been read as far as the progress: 2 to 6, in this order
unfoldable pub read_line : ℕ → Progress → Line → Step
read_line n start (line.Stack s) =
    if leb 1 s && leb s most_stack then goes (between (record { stack = s; funcs = [] })) else stop (refuse StackSize n)
read_line n start (line.Func k) = stop (refuse Form n)
read_line n start (line.At x) = stop (refuse Form n)
read_line n start line.Close = stop (refuse Form n)
read_line n start line.Malformed = stop (refuse Form n)
read_line n (between t) (line.Stack s) = stop (refuse Form n)
read_line n (between t) (line.Func k) =
    if ltb t.stack k
    then stop (refuse FrameSize n)
    else
    if leb most_funcs (count t)
    then stop (refuse TooMany n)
    else goes (inside t (record { frame = k; points = [] }))
read_line n (between t) (line.At x) = stop (refuse Form n)
read_line n (between t) line.Close = stop (refuse Form n)
read_line n (between t) line.Malformed = stop (refuse Form n)
read_line n (inside t x) (line.Stack s) = stop (refuse Form n)
read_line n (inside t x) (line.Func k) = stop (refuse Form n)
read_line n (inside t x) (line.At p) =
    if not (offset_fits x.frame p)
    then stop (refuse Offset n)
    else
    if leb most_points (size x) || leb most_in_all (in_all t.funcs + size x)
    then stop (refuse TooMany n)
    else goes (inside t (with_point x p))
read_line n (inside t x) line.Close = if leb 1 (size x) then goes (between (with_func t x)) else stop (refuse Form n)
read_line n (inside t x) line.Malformed = stop (refuse Form n)

-- the text ends before line n: an empty text is a task without a stack; else a line that is missing is refused as one of no allowed form
unfoldable pub read_end : ℕ → Progress → Judged
read_end n start = task without
read_end n (between t) = if leb 1 (count t) then task t else refused (refuse Form n)
read_end n (inside t x) = refused (refuse Form n)

abbrev pub onward : Step → (Progress → Judged) → Judged
onward (stop r) go = refused r
onward (goes s) go = go s

-- the lines from number n on
unfoldable pub read_from : ℕ → Progress → List Line → Judged
read_from n s [] = read_end n s
read_from n s (l ∷ ls) = onward (read_line n s l) (λ s'. read_from (suc n) s' ls)

abbrev pub read_text : List ℕ → Judged
read_text text = read_from 1 start (lines_of text)
