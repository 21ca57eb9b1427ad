-- The report, piece by piece: its lines, the sum of the costs that they show, and how long it can be.
use Rattle.std.specs.Prelude.{ℕ, ◌+◌, ◌*◌, ◌≤◌, Bool, true, false, ◌≡◌, List, ◌∷◌, ◌++◌, length}
use Rattle.model.specs.Limits.{most_funcs, most_in_all}
use Rattle.model.specs.Basic.{joined, sum_of, up_to}
use Rattle.model.specs.Text.{bytes}
use Rattle.model.specs.Sheet.{PointSheet, counts_blocks, once_field, record_at, records_in, records_of, total_of, line_text, head_text, point_text, total_text, func_text, report_with}
use Rattle.tables.specs.declared.Header.{Header}
use Rattle.prices.specs.declared.Price.{Price}
use Rattle.prices.specs.Prices.{most_price}
use Rattle.tables.specs.Tables.{task_of}
use Rattle.readout.specs.Sheet.{sheet_in}

-- the lines of the points have once, where a price is a number of blocks
abbrev pub shows_once : Price → Bool
shows_once price = counts_blocks price.start price.each

-- the numbers of the line of point p with these figures, with once or without
abbrev pub point_numbers : Bool → ℕ → PointSheet → List ℕ
point_numbers once p x =
    p ∷ x.high ∷ x.dead ∷ x.need ∷ x.save ∷ x.reload ∷ x.later ∷ x.chain ∷ x.cost ∷ x.fill ∷ once_field once x

-- how many numbers a line has, with once or without
abbrev pub shown : Bool → ℕ
shown true = 11
shown false = 10

-- the figures of a point are small enough to add
pub record Sums (x : PointSheet) : Type 0 where
  pub save : x.save ≤ most_price
  pub reload : x.reload ≤ most_price
  pub later : x.later ≤ most_price
  pub chain : x.chain ≤ most_price * most_funcs

-- the line of point p with these figures, at this price
abbrev pub at_text : Price → ℕ → PointSheet → List ℕ
at_text price p x = line_text (bytes "  (at") (point_numbers (shows_once price) p x)

-- ---- the parts of the report, of the task and the sheet in the working space w

-- lines of the report, and the sum of the costs that they show
pub record Part : Type 0 where
  pub text : List ℕ
  pub cost : ℕ

-- one part after another, and the first n of many
abbrev pub both : Part → Part → Part
both a b = record { text = a.text ++ b.text; cost = a.cost + b.cost }

abbrev pub first_parts : (ℕ → Part) → ℕ → Part
first_parts part n = record { text = joined (λ i. (part i).text) (up_to n); cost = sum_of (λ i. (part i).cost) (up_to n) }

-- the line of point p of function f, and those of its first n points
abbrev pub point_part : Price → List ℕ → Header → ℕ → ℕ → Part
point_part price w h f p = record { text = point_text (shows_once price) (record_at (sheet_in price w h) f p); cost = ((sheet_in price w h).at f p).cost }

abbrev pub points_part : Price → List ℕ → Header → ℕ → ℕ → Part
points_part price w h f n = first_parts (point_part price w h f) n

-- the line that opens function f, all its lines, and those of the first n functions
abbrev pub head_part : Price → List ℕ → Header → ℕ → Part
head_part price w h f = record { text = head_text (task_of w h) (sheet_in price w h) f; cost = 0 }

abbrev pub func_part : Price → List ℕ → Header → ℕ → Part
func_part price w h f = record { text = func_text (shows_once price) (task_of w h) (sheet_in price w h) f; cost = total_of (records_in (task_of w h) (sheet_in price w h) f) }

abbrev pub funcs_part : Price → List ℕ → Header → ℕ → Part
funcs_part price w h n = first_parts (func_part price w h) n

-- the foot line
abbrev pub foot_text : Price → List ℕ → Header → List ℕ
foot_text price w h = total_text (records_of (task_of w h) (sheet_in price w h))

-- the whole report
abbrev pub report_in : Price → List ℕ → Header → List ℕ
report_in price w h = report_with (shows_once price) (task_of w h) (sheet_in price w h)

-- ---- lines that are put into a sink after those so far

-- the most that the costs of all points add up to
abbrev pub most_total : ℕ
most_total = most_price * (most_funcs + 2) * most_in_all

-- after so many bytes they have room in so many, and their costs in a sum of 32 bits
pub record Room (end : ℕ) (part : Part) (room : ℕ) : Type 0 where
  pub bytes : end + length part.text ≤ room
  pub sum : part.cost ≤ most_total

-- they are put into s, which is then t, and r is the sum of their costs
pub record Adds {S : Type 0} (Puts : List ℕ → S → S → Type 0) (part : Part) (s : S) (r : ℕ) (t : S) : Type 0 where
  pub put : Puts part.text s t
  pub sum : r ≡ part.cost

-- ---- how long it can be

-- the most bytes of a point's line: 3 digits for its number, 2 for high, dead and need, 5 for each price, 7 for the chain and the cost. A line with once is
-- shorter: there a price counts blocks, and has 2 digits, and once has 3
abbrev pub most_point_text : ℕ
most_point_text = 60

-- of a function's first line: 2 digits for its number and its frame, 4 for d and D, 5 for spill, 7 for the chain
abbrev pub most_head_text : ℕ
most_head_text = 39

-- of the foot line: 10 digits for the total
abbrev pub most_foot_text : ℕ
most_foot_text = 21

-- of the first and the last line together
abbrev pub ends_text : ℕ
ends_text = 10

-- of a report with this header, and of every report
abbrev pub most_length : Header → ℕ
most_length h = ends_text + most_foot_text + most_head_text * h.funcs + most_point_text * h.points

abbrev pub most_report : ℕ
most_report = ends_text + most_foot_text + most_head_text * most_funcs + most_point_text * most_in_all
