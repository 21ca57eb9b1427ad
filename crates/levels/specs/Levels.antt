-- Levels: the functions from m on and below n in the order of their d. One that displaces more has a higher level, and those that displace the same share
-- one. There are no more levels than functions, so that a set of 64 bits holds them all.
use Rattle.std.specs.Prelude.{if◌then◌else◌, ℕ, suc, ◌+◌, ◌-◌, ◌≤◌, ◌<◌, List, ◌≡◌, leb, ltb, length}
use Rattle.model.specs.Basic.{select, largest, count_from}
use Rattle.model.specs.Limits.{most_funcs}
use Rattle.tables.specs.Tables.{item}
use Rattle.columns.specs.Columns.{columns_end, shortest_column, level_column, Funcs, Changed}

-- the level of a displacement v: one more than how many of them displace less than v
unfoldable pub level_among : (ℕ → ℕ) → ℕ → ℕ → ℕ → ℕ
level_among d m n v = suc (length (select (λ g. ltb (d g) v) (count_from m (n - m))))

-- the largest d of those whose level is at most k
unfoldable pub largest_within : (level d : ℕ → ℕ) → ℕ → ℕ → ℕ → ℕ
largest_within level d m n k = largest d (select (λ g. leb (level g) k) (count_from m (n - m)))

-- d and the level that the columns have for a function
abbrev pub shortest_in : List ℕ → ℕ → ℕ
shortest_in w g = item w (shortest_column + g)

abbrev pub level_in : List ℕ → ℕ → ℕ
level_in w g = item w (level_column + g)

-- the columns have room for the functions from m on and below n
pub record Room (m n : ℕ) (w : List ℕ) : Type 0 where
  pub order : m ≤ n
  pub few : n ≤ most_funcs
  pub long : columns_end ≤ length w

-- each of them has its level
abbrev pub Levelled : (ℕ → ℕ) → ℕ → ℕ → List ℕ → Type 0
Levelled d m n w = Funcs (λ g. level_among d m n (d g)) level_column m n w

-- each has a small number in the column
abbrev pub SmallLevels : ℕ → ℕ → List ℕ → Type 0
SmallLevels m n w = (g : ℕ) → m ≤ g → g < n → level_in w g ≤ most_funcs

-- those that displace more than v are one level higher
pub record Lifted (m n v : ℕ) (w w' : List ℕ) : Type 0 where
  pub changed : Changed level_column most_funcs w w'
  pub each : (g : ℕ) → m ≤ g → g < n → level_in w' g ≡ (if ltb v (shortest_in w g) then suc (level_in w g) else level_in w g)

-- function f has found its level among those behind it, whatever d is
pub record Inserted (f n : ℕ) (w w' : List ℕ) : Type 0 where
  pub changed : Changed level_column most_funcs w w'
  pub levelled : (d : ℕ → ℕ) → Funcs d shortest_column f n w → Levelled d (f + 1) n w → Levelled d f n w'
