-- A record's rank: one number that is higher where the record comes earlier in the list of the dearest points. And the list as it is printed from ranks.
use Rattle.std.specs.Prelude.{ℕ, ◌+◌, ◌-◌, ◌*◌, ◌/◌, ◌%◌, ◌≤◌, ◌<◌, min, ◌≡◌, List, [], ◌∷◌, map, get_or, length, take}
use Rattle.model.specs.Limits.{most_funcs, most_points, most_dearest}
use Rattle.model.specs.Basic.{joined, up_to}
use Rattle.model.specs.Text.{bytes}
use Rattle.model.specs.Task.{Task, size, func}
use Rattle.model.specs.Sheet.{Sheet, Record, record_at, line_text}
use Rattle.model.specs.Dearest.{dearest_with}
use Rattle.tables.specs.declared.Header.{Header}
use Rattle.tables.specs.Tables.{task_of}
use Rattle.prices.specs.declared.Price.{Price}
use Rattle.readout.specs.declared.PointFigures.{PointFigures}
use Rattle.readout.specs.Sheet.{sheet_in}
use Rattle.readout.specs.Readable.{figured_of}

-- what is saved costs less than this: it is the price of one move, at most 16,575
abbrev pub save_end : ℕ
save_end = 32768

-- the cost decides first, then what is saved, then the function and then the point, of which the lower numbers rank higher
unfoldable pub rank_of : Record → ℕ
rank_of x =
    ((x.figures.cost * save_end + x.figures.save) * most_funcs + (most_funcs - 1 - x.fn)) * most_points + (most_points - 1 - x.at)

-- of point p of function f with these figures
abbrev pub rank_with : PointFigures → ℕ → ℕ → ℕ
rank_with x f p = rank_of (record { fn = f; at = p; figures = figured_of x })

-- on a sheet, of point p of function f; of the first n points of function f; of all points of the first n functions of a task
abbrev pub rank_at : Sheet → ℕ → ℕ → ℕ
rank_at s f p = rank_of (record_at s f p)

abbrev pub point_ranks : Sheet → ℕ → ℕ → List ℕ
point_ranks s f n = map (rank_at s f) (up_to n)

abbrev pub func_ranks : Task → Sheet → ℕ → List ℕ
func_ranks t s n = joined (λ f. point_ranks s f (size (func t f))) (up_to n)

-- of all points of the task and the sheet in the working space w
abbrev pub ranks_in : Price → List ℕ → Header → List ℕ
ranks_in price w h = func_ranks (task_of w h) (sheet_in price w h) h.funcs

-- what a rank says of its record
abbrev pub ranked_func : ℕ → ℕ
ranked_func r = most_funcs - 1 - r / most_points % most_funcs

abbrev pub ranked_point : ℕ → ℕ
ranked_point r = most_points - 1 - r % most_points

abbrev pub ranked_cost : ℕ → ℕ
ranked_cost r = r / most_points / most_funcs / save_end

-- the line of a rank, and the lines of these ranks
unfoldable pub rank_text : ℕ → List ℕ
rank_text r = line_text (bytes "(dear") (ranked_func r ∷ ranked_point r ∷ ranked_cost r ∷ [])

abbrev pub list_text : List ℕ → List ℕ
list_text ranks = joined rank_text ranks

-- a cost has at most seven digits, so costs and ranks are below these numbers; the most bytes of a line, and of a list
abbrev pub cost_end : ℕ
cost_end = 10000000

abbrev pub rank_end : ℕ
rank_end = cost_end * save_end * most_funcs * most_points

abbrev pub most_line : ℕ
most_line = 22

abbrev pub most_list : ℕ
most_list = most_line * most_dearest

-- these ranks can be printed
pub record Printable (ranks : List ℕ) : Type 0 where
  pub few : length ranks ≤ most_dearest
  pub low : (i : ℕ) → i < length ranks → get_or ranks i 0 < rank_end

-- the lines of these ranks are the list of the dearest points of a task on this sheet
pub record Listing (t : Task) (s : Sheet) (ranks : List ℕ) : Type 0 where
  pub printable : Printable ranks
  pub text : list_text ranks ≡ dearest_with t s

-- how many points are listed of a task with this header
abbrev pub listed : Header → ℕ
listed h = min most_dearest h.points

-- there are as many of these ranks as are listed, and the first of them, as many, have that list
abbrev pub Lists : Price → List ℕ → Header → List ℕ → Type 0
Lists price w h ranks = (listed h ≤ length ranks) × Listing (task_of w h) (sheet_in price w h) (take (listed h) ranks)
