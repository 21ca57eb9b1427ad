-- D and d of the functions that a function calls.
use Rattle.std.specs.Prelude.{ℕ, ◌+◌, min, max, List, [], ◌≡◌, ◌≢◌, Option, Some, None, MatchOption}
use Rattle.model.specs.Basic.{largest, smallest}
use Rattle.model.specs.Figures.{callees}
use Rattle.tables.specs.declared.Span.{Span}
use Rattle.tables.specs.Tables.{item, func_in}
use Rattle.columns.specs.Columns.{longest_column, shortest_column}
use Rattle.displace.specs.declared.CalleeRange.{CalleeRange}

-- the range with the D and the d of one callee more
abbrev pub widened : Option CalleeRange → ℕ → ℕ → CalleeRange
widened None a b = record { most = a; least = b }
widened (Some r) a b = record { most = max r.most a; least = min r.least b }

-- the largest D, 0 where there is no callee
abbrev pub most_of : Option CalleeRange → ℕ
most_of None = 0
most_of (Some r) = r.most

-- the largest D and the smallest d of some functions
pub record Bounds (w l : List ℕ) (r : CalleeRange) : Type 0 where
  pub some : l ≢ []
  pub most : r.most ≡ largest (λ g. item w (longest_column + g)) l
  pub least : r.least ≡ smallest (λ g. item w (shortest_column + g)) l

-- the same where there are any
abbrev pub RangeIn : List ℕ → List ℕ → Option CalleeRange → Type 0
RangeIn w l r = MatchOption r (l ≡ []) (Bounds w l)

-- of the functions that s calls
abbrev pub RangeOf : List ℕ → Span → Option CalleeRange → Type 0
RangeOf w s r = RangeIn w (callees (func_in w s)) r
