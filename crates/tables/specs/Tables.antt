-- A task as numbers in the tables of the working space, and the task that the tables hold.
use Rattle.std.specs.Prelude.{if◌then◌else◌, ℕ, zero, suc, ◌+◌, ◌*◌, ◌≡◌, Bool, true, false, List, [], ◌∷◌, ◌++◌, get_or, set, eqb}
use Rattle.model.specs.declared.Point.{Point}
use Rattle.model.specs.declared.Point.TheVariants.{Load, Store, Call, Ensure, Goto, Either, Return}
use Rattle.model.specs.Task.{Func, Task}
use Rattle.tables.specs.declared.Header.{Header}
use Rattle.tables.specs.declared.Span.{Span}
use Rattle.tables.specs.Layout.{first_table, second_table, frame_table, base_table, size_table}

-- a point as three numbers, and back
abbrev pub point_of : ℕ → ℕ → ℕ → Point
point_of k a b =
    if eqb k 0
    then Load a
    else
    if eqb k 1
    then Store a
    else
    if eqb k 2
    then Call a
    else if eqb k 3 then Ensure a else if eqb k 4 then Goto a else if eqb k 5 then Either a b else Return

abbrev pub kind_of : Point → ℕ
kind_of (Load o) = 0
kind_of (Store o) = 1
kind_of (Call f) = 2
kind_of (Ensure k) = 3
kind_of (Goto p) = 4
kind_of (Either p q) = 5
kind_of Return = 6

abbrev pub first_argument : Point → ℕ
first_argument (Load o) = o
first_argument (Store o) = o
first_argument (Call f) = f
first_argument (Ensure k) = k
first_argument (Goto p) = p
first_argument (Either p q) = p
first_argument Return = 0

abbrev pub second_argument : Point → ℕ
second_argument (Load o) = 0
second_argument (Store o) = 0
second_argument (Call f) = 0
second_argument (Ensure k) = 0
second_argument (Goto p) = 0
second_argument (Either p q) = q
second_argument Return = 0

-- entry p of a table
abbrev pub item : List ℕ → ℕ → ℕ
item l p = get_or l p 0

-- the sum of f over the numbers below n
unfoldable pub sum : (ℕ → ℕ) → ℕ → ℕ
sum f zero = 0
sum f (suc n) = sum f n + f n

-- a load or a store
abbrev pub is_access : Point → Bool
is_access (Load o) = true
is_access (Store o) = true
is_access (Call f) = false
is_access (Ensure k) = false
is_access (Goto p) = false
is_access (Either p q) = false
is_access Return = false

-- point i of the tables w, and w with another point there
abbrev pub point_at : List ℕ → ℕ → Point
point_at w i = point_of (get_or w i 0) (get_or w (first_table + i) 0) (get_or w (second_table + i) 0)

abbrev pub put_point : List ℕ → ℕ → Point → List ℕ
put_point w i p =
    set (set (set w i (kind_of p)) (first_table + i) (first_argument p)) (second_table + i) (second_argument p)

-- what function f has in w, and w with another function there
abbrev pub frame_at : List ℕ → ℕ → ℕ
frame_at w f = get_or w (frame_table + f) 0

abbrev pub base_at : List ℕ → ℕ → ℕ
base_at w f = get_or w (base_table + f) 0

abbrev pub size_at : List ℕ → ℕ → ℕ
size_at w f = get_or w (size_table + f) 0

abbrev pub put_func : List ℕ → ℕ → ℕ → ℕ → ℕ → List ℕ
put_func w f frame base size =
    set (set (set w (frame_table + f) frame) (base_table + f) base) (size_table + f) size

abbrev pub span_at : List ℕ → ℕ → Span
span_at w f = record { frame = frame_at w f; base = base_at w f; size = size_at w f }

-- n points from number b on; the function that lies so; function f; the first n functions; the task with this header
unfoldable pub points_of : List ℕ → ℕ → ℕ → List Point
points_of w b zero = []
points_of w b (suc n) = points_of w b n ++ (point_at w (b + n) ∷ [])

abbrev pub func_in : List ℕ → Span → Func
func_in w s = record { frame = s.frame; points = points_of w s.base s.size }

abbrev pub func_of : List ℕ → ℕ → Func
func_of w f = func_in w (span_at w f)

unfoldable pub funcs_of : List ℕ → ℕ → List Func
funcs_of w zero = []
funcs_of w (suc n) = funcs_of w n ++ (func_of w n ∷ [])

abbrev pub task_of : List ℕ → Header → Task
task_of w h = record { stack = h.stack; funcs = funcs_of w h.funcs }

-- the line that opens function f, and that of its point p, where its first point has the number b: each function has two lines more than points
abbrev pub opening_line : ℕ → ℕ → ℕ
opening_line f b = 2 + 2 * f + b

abbrev pub line_in : ℕ → ℕ → ℕ → ℕ
line_in f b p = opening_line f b + 1 + p

-- the first n functions of w lie one after the other from point 0 on and end at point m
pub data Stacked (w : List ℕ) : ℕ → ℕ → Type 0 where
  none : Stacked w 0 0
  more : {n m : ℕ} → Stacked w n m → base_at w n ≡ m → Stacked w (suc n) (m + size_at w n)
