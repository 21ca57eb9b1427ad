-- What the functions of the reader say: the answer for the whole text is the answer for what is left of it.
use Rattle.std.specs.Prelude.{ℕ, ◌+◌, ◌≤◌, ◌<◌, ◌≡◌, List, [], length, drop, Result, Ok, Err}
use Rattle.model.specs.declared.Line.{Line}
use Rattle.model.specs.declared.Refusal.{Refusal}
use Rattle.model.specs.Limits.{most_in_all, most_bytes}
use Rattle.model.specs.Rows.{Verdict}
use Rattle.model.specs.Text.{lines_of}
use Rattle.model.specs.Task.{Func, Progress, between, inside, Judged, refused, task, stop, goes, read_line, read_from}
use Rattle.tables.specs.declared.Header.{Header}
use Rattle.tables.specs.Layout.{tables_length}
use Rattle.tables.specs.Tables.{points_of, task_of}
use Rattle.tables.specs.Valid.{Kept, Holds}
use Rattle.reader.specs.declared.Position.{Position}
use Rattle.reader.specs.declared.Part.{Part}

-- a line of a text that is short enough begins at this position: line n at byte n - 1 or later
pub record Begins (text : List ℕ) (at : Position) : Type 0 where
  pub short : length text ≤ most_bytes
  pub within : at.byte ≤ length text
  pub number : at.line ≤ at.byte + 1

-- what is left of the text, read on from the progress p
abbrev pub rest : List ℕ → Position → Progress → Judged
rest text at p = read_from at.line p (lines_of (drop at.byte text))

-- a text with s cache blocks, from line 2 at byte a on
abbrev pub after_stack : List ℕ → ℕ → ℕ → Judged
after_stack text s a = rest text (record { line = 2; byte = a }) (between (record { stack = s; funcs = [] }))

abbrev pub between_of : List ℕ → Header → Progress
between_of w h = between (task_of w h)

-- the function that is being read, as far as the tables hold it, and the progress in it
abbrev pub part_of : List ℕ → Part → Func
part_of w p = record { frame = p.frame; points = points_of w p.before.points p.size }

abbrev pub inside_of : List ℕ → Part → Progress
inside_of w p = inside (task_of w p.before) (part_of w p)

-- the function with frame k after those of h, with no point so far
abbrev pub opened : Header → ℕ → Part
opened h k = record { before = h; frame = k; size = 0 }

-- one point more
abbrev pub more : Part → Part
more p = record { before = p.before; frame = p.frame; size = p.size + 1 }

-- the header that counts the function
abbrev pub after_func : Part → Header
after_func p = record { stack = p.before.stack; funcs = p.before.funcs + 1; points = p.before.points + p.size }

-- line n, a point line inside a function; p, p': the function before and after it
abbrev pub PointAs : Verdict → List ℕ → List ℕ → Part → Part → ℕ → Line → Type 0
PointAs (Ok u) w w' p p' n l =
    (read_line n (inside_of w p) l ≡ goes (inside_of w' (more p)))
    × Kept tables_length w w'
    × Holds w' p.before
    × (p.before.points + p.size < most_in_all)
    × (p' ≡ more p)
PointAs (Err q) w w' p p' n l = (read_line n (inside_of w p) l ≡ stop q) × (w' ≡ w)

-- the rest of a function, read on from the position at and the progress p: the position after its closing line, and the header that counts it
abbrev pub FuncReadAs : Result (Position × Header) Refusal → List ℕ → Position → Progress → List ℕ → List ℕ → Type 0
FuncReadAs (Ok x) text at p w w' =
    (rest text at p ≡ rest text x.0 (between_of w' x.1))
    × Kept tables_length w w'
    × Holds w' x.1
    × Begins text x.0
    × (at.byte < x.0.byte)
FuncReadAs (Err q) text at p w w' = (rest text at p ≡ refused q) × Kept tables_length w w'

-- a whole text: a task, which the tables hold, or a refusal
abbrev pub ReadAs : Result Header Refusal → Judged → List ℕ → List ℕ → Type 0
ReadAs (Ok h) j w w' = (j ≡ task (task_of w' h)) × Kept tables_length w w' × Holds w' h
ReadAs (Err q) j w w' = (j ≡ refused q) × Kept tables_length w w'
