-- What a column of figures has. Layout of the crate tables says where each begins.
use Rattle.std.specs.Prelude.{ℕ, ◌+◌, ◌-◌, ◌≤◌, ◌<◌, List, ◌≡◌, length}
use Rattle.tables.specs.Tables.{item, base_at, size_at}
pub use Rattle.tables.specs.Layout.{high_column, dead_column, need_column, next_column, fill_column, longest_column, shortest_column, entry_column, chain_column}
pub use Rattle.tables.specs.Layout.{level_column, columns_end}

-- the column at a has a figure for each point of the functions below n
pub record Points (figure : ℕ → ℕ → ℕ) (a n : ℕ) (w : List ℕ) : Type 0 where
  pub each : (f p : ℕ) → f < n → p < size_at w f → item w (a + base_at w f + p) ≡ figure f p

-- the column at a has a figure for each function from m on and below n
pub record Funcs (figure : ℕ → ℕ) (a m n : ℕ) (w : List ℕ) : Type 0 where
  pub each : (f : ℕ) → m ≤ f → f < n → item w (a + f) ≡ figure f

-- the numbers of the column at a, for the points of the functions below n, are at most m; and those for the functions below n
pub record PointsLow (m a n : ℕ) (w : List ℕ) : Type 0 where
  pub each : (f p : ℕ) → f < n → p < size_at w f → item w (a + base_at w f + p) ≤ m

pub record FuncsLow (m a n : ℕ) (w : List ℕ) : Type 0 where
  pub each : (f : ℕ) → f < n → item w (a + f) ≤ m

-- w' is w but for the n numbers from a on
pub record Changed (a n : ℕ) (w w' : List ℕ) : Type 0 where
  pub size : length w' ≡ length w
  pub before : (i : ℕ) → i < a → item w' i ≡ item w i
  pub behind : (i : ℕ) → a + n ≤ i → item w' i ≡ item w i

-- w' is w but for the columns
abbrev pub OnlyColumns : List ℕ → List ℕ → Type 0
OnlyColumns w w' = Changed high_column (columns_end - high_column) w w'
