-- A task in the tables with its figures in the columns.
use Rattle.std.specs.Prelude.{ℕ, List}
use Rattle.model.specs.Sheet.{priced_sheet}
use Rattle.theory.specs.Agree.{Agree}
use Rattle.tables.specs.declared.Header.{Header}
use Rattle.tables.specs.Tables.{task_of}
use Rattle.prices.specs.declared.Price.{Price}
use Rattle.prices.specs.Prices.{price_of}
use Rattle.readout.specs.Sheet.{sheet_in}
use Rattle.readout.specs.Readable.{Readable}

-- the columns can be read, and the sheet in them is that of the task at this price
pub record Figured (price : Price) (w : List ℕ) (h : Header) : Type 0 where
  pub readable : Readable price w h
  pub agree : Agree (task_of w h) (sheet_in price w h) (priced_sheet (price_of price) (task_of w h))
