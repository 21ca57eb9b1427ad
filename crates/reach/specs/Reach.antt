-- Refusals 11 and 13 of a function in the tables, and what a pass over its points finds. A set is a number with a bit for each offset.
use Rattle.std.specs.Prelude.{ℕ, ◌+◌, ◌-◌, ◌≤◌, ◌<◌, Bool, false, not, List, ◌≡◌, T, eqb}
use Rattle.std.specs.Result.{result_and}
use Rattle.std.proofs.Math.Option.{Option, none, some}
use Rattle.bits.specs.Bits.{bit}
use Rattle.model.specs.declared.Refusal.{Refusal}
use Rattle.model.specs.declared.Row.{Row}
use Rattle.model.specs.Basic.{unless, first_of, count_from, up_to}
use Rattle.model.specs.Figures as figure
use Rattle.model.specs.Refusal.{stored_before, reach_row, load_row}
use Rattle.model.specs.Rows.{Verdict, refuse, row_verdict}
use Rattle.model.specs.Task.{Func, Task, size, func, point}
use Rattle.model.specs.Walk.{loaded}
use Rattle.tables.specs.declared.Header.{Header}
use Rattle.tables.specs.declared.Span.{Span}
use Rattle.tables.specs.Tables.{item, point_at, span_at, func_in, line_in}

-- every walk to point p stores the offset that it loads, if there is one
abbrev pub loads_stored : Func → ℕ → Bool
loads_stored x p = stored_before x p (loaded (point x p))

-- a function with no refusal 11 and no refusal 13; such functions before number n
pub record Clean (w : List ℕ) (s : Span) : Type 0 where
  pub reached : (p : ℕ) → p < s.size → T (figure.reached (func_in w s) p)
  pub stored : (p : ℕ) → p < s.size → T (loads_stored (func_in w s) p)

pub record CleanBefore (w : List ℕ) (h : Header) (n : ℕ) : Type 0 where
  pub within : n ≤ h.funcs
  pub clean : (f : ℕ) → f < n → Clean w (span_at w f)

-- the set m has the offset o, if there is one
abbrev pub has : ℕ → Option ℕ → Bool
has m none = false
has m (some o) = eqb (bit m o) 1

-- point p is marked as reached; its set does not have the offset that it loads
abbrev pub seen : List ℕ → ℕ → Bool
seen state p = not (eqb (item state p) 0)

abbrev pub initialised : List ℕ → Span → List ℕ → ℕ → Bool
initialised w s sets p = not (has (item sets p) (loaded (point_at w (s.base + p))))

-- marks and sets that tell what the walks of a function do
pub record Tells (w : List ℕ) (s : Span) (sets state : List ℕ) : Type 0 where
  pub reached : (p : ℕ) → p < s.size → seen state p ≡ figure.reached (func_in w s) p
  pub stored : (p : ℕ) → p < s.size → initialised w s sets p ≡ loads_stored (func_in w s) p

-- this row at point p of function f where a test fails, and at the first such point
abbrev pub failing_at : Row → ℕ → Span → (ℕ → Bool) → ℕ → Option Refusal
failing_at row f s test p = unless (test p) (refuse row (line_in f s.base p))

unfoldable pub first_failing : Row → ℕ → Span → (ℕ → Bool) → Option Refusal
first_failing row f s test = first_of (failing_at row f s test) (up_to s.size)

-- 11 and 13 of function f
unfoldable pub reach_in : Task → ℕ → Option Refusal
reach_in t f = first_of (reach_row t f) (up_to (size (func t f)))

unfoldable pub load_in : Task → ℕ → Option Refusal
load_in t f = first_of (load_row t f) (up_to (size (func t f)))

-- 11 of the functions from f on, below n, then what is kept, then 13 of these functions
unfoldable pub verdict_from : Task → ℕ → ℕ → Verdict → Verdict
verdict_from t f n kept =
    result_and
    (row_verdict (first_of (reach_in t) (count_from f (n - f))))
    (result_and kept (row_verdict (first_of (load_in t) (count_from f (n - f)))))
