-- What the sheet allows at each event of a run, in columns behind those of the figures. Layout of the crate tables says where each begins.
use Rattle.std.specs.Prelude.{ℕ, ◌-◌, List}
use Rattle.tables.specs.declared.Header.{Header}
pub use Rattle.tables.specs.Layout.{cost_bounds, fill_bounds, spill_bounds, bounds_end}
use Rattle.prices.specs.declared.Price.{Price}
use Rattle.columns.specs.Columns.{columns_end, Points, Funcs, Changed}
use Rattle.readout.specs.Sheet.{sheet_in}
use Rattle.readout.specs.Readable.{Readable}

-- the columns of figures can be read, and those behind them have what the sheet in them allows in the functions below n
pub record BoundedTo (price : Price) (w : List ℕ) (h : Header) (n : ℕ) : Type 0 where
  pub readable : Readable price w h
  pub cost : Points (λ f p. ((sheet_in price w h).at f p).cost) cost_bounds n w
  pub fill : Points (λ f p. ((sheet_in price w h).at f p).fill) fill_bounds n w
  pub spill : Funcs (sheet_in price w h).spill spill_bounds 0 n w

-- in every function: what a run reads
abbrev pub Bounded : Price → List ℕ → Header → Type 0
Bounded price w h = BoundedTo price w h h.funcs

-- w' is w but for these columns
abbrev pub OnlyBounds : List ℕ → List ℕ → Type 0
OnlyBounds w w' = Changed columns_end (bounds_end - columns_end) w w'
