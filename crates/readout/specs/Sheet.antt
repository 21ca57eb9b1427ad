-- The sheet that stands in the columns, whoever wrote them: the numbers of the columns, those that move blocks priced. Nothing here knows how a figure
-- is found.
use Rattle.std.specs.Prelude.{ℕ, ◌+◌, ◌-◌, List, take}
use Rattle.model.specs.Sheet.{PointSheet, Sheet, costed}
use Rattle.tables.specs.declared.Header.{Header}
use Rattle.tables.specs.Tables.{item, frame_at, base_at}
use Rattle.prices.specs.declared.Price.{Price}
use Rattle.prices.specs.Prices.{price_of}
use Rattle.columns.specs.Columns.{high_column, dead_column, need_column, next_column, fill_column, entry_column, chain_column, columns_end}

-- the tables and the columns, and nothing behind them: so the sheet is the same whatever is written there
unfoldable pub front : List ℕ → List ℕ
front w = take columns_end w

-- of function f: its spill from E, its frame and the stack, and its chain; the figures of its point p
unfoldable pub spill_from : Price → List ℕ → Header → ℕ → ℕ
spill_from price w h f = price_of price (item w (entry_column + f) + frame_at w f - h.stack)

unfoldable pub chain_from : List ℕ → ℕ → ℕ
chain_from w f = item w (chain_column + f)

unfoldable pub figures_from : Price → List ℕ → ℕ → ℕ → PointSheet
figures_from price w f p =
    costed
    (price_of price)
    (item w (high_column + base_at w f + p))
    (item w (dead_column + base_at w f + p))
    (item w (need_column + base_at w f + p))
    (item w (next_column + base_at w f + p))
    (item w (chain_column + f))
    (item w (fill_column + base_at w f + p))

abbrev pub sheet_from : Price → List ℕ → Header → Sheet
sheet_from price w h = record { price = price_of price; spill = spill_from price w h; chain = chain_from w; at = figures_from price w }

-- the sheet in the working space w
abbrev pub sheet_in : Price → List ℕ → Header → Sheet
sheet_in price w h = sheet_from price (front w) h
