-- The numbers that a point is given, and what a write into one column does.
use Rattle.std.specs.Prelude.{if◌then◌else◌, ℕ, zero, suc, ◌+◌, ◌-◌, ◌*◌, ◌<◌, max, Bool, List, ◌≡◌, ltb}
use Rattle.std.proofs.Math.Option.{Option, none, some}
use Rattle.model.specs.Limits.{most_funcs}
use Rattle.model.specs.Walk.{called, ensured, present, calls}
use Rattle.tables.specs.declared.Header.{Header}
use Rattle.tables.specs.declared.Span.{Span}
use Rattle.tables.specs.Tables.{item, point_at, func_in}
use Rattle.prices.specs.declared.Price.{Price}
use Rattle.prices.specs.Prices.{price_of, most_price}
use Rattle.columns.specs.Columns.{fill_column, longest_column, shortest_column, level_column, Changed}

-- the most that a chain of calls can cost: callers have smaller numbers, so there are at most 63 of them
abbrev pub most_chain : ℕ
most_chain = most_price * (most_funcs - 1)

-- the function that point p of s calls; the same where its number is below most_funcs; and whether the point is an ensure
abbrev pub callee_at : List ℕ → Span → ℕ → Option ℕ
callee_at w s p = called (point_at w (s.base + p))

abbrev pub among_funcs : Option ℕ → Option ℕ
among_funcs none = none
among_funcs (some g) = if ltb g most_funcs then some g else none

abbrev pub func_called_at : List ℕ → Span → ℕ → Option ℕ
func_called_at w s p = among_funcs (callee_at w s p)

-- a number of the callee, 0 where there is none
abbrev pub at_callee : (ℕ → ℕ) → Option ℕ → ℕ
at_callee number none = 0
at_callee number (some g) = number g

abbrev pub ensure_at : List ℕ → Span → ℕ → Bool
ensure_at w s p = present (ensured (point_at w (s.base + p)))

-- what point p of s calls is a function
abbrev pub CallFits : List ℕ → Span → ℕ → Type 0
CallFits w s p = (g : ℕ) → called (point_at w (s.base + p)) ≡ some g → g < most_funcs

-- a number for point p, from the tables and the columns: the fill at p; what is kept there; what the callee at p leaves of the cache; the level of the
-- callee at p; the chain of the callee at p, where that of the caller is own and a move has this price
unfoldable pub filled_at : List ℕ → Header → Span → ℕ → ℕ
filled_at w h s p =
    if ensure_at w s p then at_callee (λ g. s.frame - (h.stack - item w (longest_column + g))) (func_called_at w s (p - 1)) else 0

unfoldable pub kept_at : List ℕ → Span → ℕ → ℕ
kept_at w s p = s.frame - item w (fill_column + s.base + p)

unfoldable pub cut_at : List ℕ → Header → Span → ℕ → ℕ
cut_at w h s p = at_callee (λ g. h.stack - item w (shortest_column + g)) (func_called_at w s p)

unfoldable pub level_at : List ℕ → Span → ℕ → ℕ
level_at w s p = at_callee (λ g. item w (level_column + g)) (func_called_at w s p)

unfoldable pub chained_at : List ℕ → Span → ℕ → Price → ℕ → ℕ
chained_at w s own price p = if ltb (p + 1) s.size then own + price_of price (kept_at w s (p + 1)) else 0

-- a column written from a buffer
pub record Put (a n : ℕ) (v w w' : List ℕ) : Type 0 where
  pub changed : Changed a n w w'
  pub each : (p : ℕ) → p < n → item w' (a + p) ≡ item v p

-- the largest of m and of the numbers below n that pass the test
unfoldable pub raised_by : (ℕ → Bool) → (ℕ → ℕ) → ℕ → ℕ → ℕ
raised_by test v zero m = m
raised_by test v (suc n) m = if test n then max (raised_by test v n m) (v n) else raised_by test v n m

-- each function's number is raised to those of the points of s that call it
pub record Raised (a : ℕ) (s : Span) (v w w' : List ℕ) : Type 0 where
  pub changed : Changed a most_funcs w w'
  pub each : (g : ℕ) → g < most_funcs → item w' (a + g) ≡ raised_by (calls (func_in w s) g) (item v) s.size (item w (a + g))
