-- The preemption sheet: the figures as one record, the formulas of the cost and its parts, and the bytes of the report.
use Rattle.std.specs.Prelude.{if◌then◌else◌, ℕ, zero, suc, ◌+◌, ◌-◌, ◌*◌, ◌/◌, ◌%◌, min, max, Bool, true, false, ◌&&◌, List, [], ◌∷◌, ◌++◌, map, eqb, ltb}
use Rattle.model.specs.Basic.{joined, sum_of, up_to}
use Rattle.model.specs.Text.{bytes}
use Rattle.model.specs.Task.{Task, func, size, count}
use Rattle.model.specs.Figures as Figures

-- the figures of a point: all that a line of the report shows of it but for its number and once, which follows from them
pub record PointSheet : Type 0 where
  pub high : ℕ
  pub dead : ℕ
  pub need : ℕ
  pub save : ℕ
  pub reload : ℕ
  pub later : ℕ
  pub chain : ℕ
  pub cost : ℕ
  pub fill : ℕ

-- the price of a move of n blocks: nothing where none moves, else a start and the same for each block
unfoldable pub move_price : ℕ → ℕ → ℕ → ℕ
move_price start each n = if eqb n 0 then 0 else start + each * n

-- in document 01 it is n itself
abbrev pub in_blocks : ℕ → ℕ
in_blocks n = n

-- whether a price of this start and each is the number of blocks
abbrev pub counts_blocks : ℕ → ℕ → Bool
counts_blocks start each = eqb start 0 && eqb each 1

-- a sheet: what runs are measured against. Both sides count a move by its price. Any rule for the figures gives a sheet
pub record Sheet : Type 0 where
  pub price : ℕ → ℕ
  pub spill : ℕ → ℕ
  pub chain : ℕ → ℕ
  pub at : ℕ → ℕ → PointSheet

-- the preemption cost (cache-related preemption delay) and its parts, from the figures that walks give: save and reload at the preemption
-- itself, later and chain the delayed fills of the running frame and of its callers. next is q, and fill is in blocks
unfoldable pub costed : (ℕ → ℕ) → (high dead need next chain fill : ℕ) → PointSheet
costed price high dead need next chain fill =
    record {
      high = high;
      dead = dead;
      need = need;
      save = price (high - dead);
      reload = price (need - dead);
      later = price (next - need);
      chain = chain;
      cost = price (high - dead) + price (need - dead) + price (next - need) + chain;
      fill = price fill;
    }

-- once (document 02, request 7): the bound on the blocks that a single preemption costs. After it the ensures fill at most later + chain blocks more than
-- without it, and no more than the blocks that it leaves missing in the cache, high − max(dead, need) at most
unfoldable pub once_of : PointSheet → ℕ
once_of x = x.save + x.reload + min (x.later + x.chain) (x.high - max x.dead x.need)

-- the sheet on which a preemption at each point costs this, and all else is the same
abbrev pub charging : (ℕ → ℕ → ℕ) → Sheet → Sheet
charging cost s =
    record {
      price = s.price;
      spill = s.spill;
      chain = s.chain;
      at = λ f p.
          record {
            high = (s.at f p).high;
            dead = (s.at f p).dead;
            need = (s.at f p).need;
            save = (s.at f p).save;
            reload = (s.at f p).reload;
            later = (s.at f p).later;
            chain = (s.at f p).chain;
            cost = cost f p;
            fill = (s.at f p).fill;
          };
    }

-- with once in place of the cost
abbrev pub charging_once : Sheet → Sheet
charging_once s = charging (λ f p. once_of (s.at f p)) s

-- the sheet of a task, for d of each function, and dead and need of each point
abbrev pub sheet_with : (ℕ → ℕ) → Task → (ℕ → ℕ) → (ℕ → ℕ → ℕ) → (ℕ → ℕ → ℕ) → Sheet
sheet_with price t d dead need =
    record {
      price = price;
      spill = λ f. price (Figures.spill_with d t f);
      chain = Figures.chain price t;
      at = λ f p.
          costed
          price
          (Figures.high_with d t f p)
          (dead f p)
          (need f p)
          (Figures.kept_next t f p)
          (Figures.chain price t f)
          (Figures.fill t f p);
    }

-- with those of its own walks
abbrev pub priced_sheet : (ℕ → ℕ) → Task → Sheet
priced_sheet price t = sheet_with price t (Figures.shortest t) (λ f. Figures.dead (func t f)) (λ f. Figures.need (func t f))

-- document 01: in blocks
abbrev pub sheet_of : Task → Sheet
sheet_of t = priced_sheet in_blocks t

-- a record of the report: a point and its figures. Those of a function, and all of them, in the report's order
pub record Record : Type 0 where
  pub fn : ℕ
  pub at : ℕ
  pub figures : PointSheet

abbrev pub record_at : Sheet → ℕ → ℕ → Record
record_at s f p = record { fn = f; at = p; figures = s.at f p }

unfoldable pub records_in : Task → Sheet → ℕ → List Record
records_in t s f = map (record_at s f) (up_to (size (func t f)))

unfoldable pub records_of : Task → Sheet → List Record
records_of t s = joined (records_in t s) (up_to (count t))

-- a number in decimal, by at most n digits
unfoldable pub decimal_to : ℕ → ℕ → List ℕ
decimal_to zero m = []
decimal_to (suc n) m =
    let longer = decimal_to n (m / 10) ++ ((48 + m % 10) ∷ []) in
    if ltb m 10 then (48 + m) ∷ [] else longer

unfoldable pub decimal : ℕ → List ℕ
decimal m = decimal_to (suc m) m

-- a line: a word, numbers with a space before each, a closing bracket
unfoldable pub line_text : List ℕ → List ℕ → List ℕ
line_text word numbers = word ++ (joined (λ m. bytes " " ++ decimal m) numbers ++ bytes ")\n")

unfoldable pub head_text : Task → Sheet → ℕ → List ℕ
head_text t s f =
    line_text
    (bytes "  (func")
    (f
    ∷ (func t f).frame
    ∷ Figures.shortest t f
    ∷ Figures.longest t f
    ∷ s.spill f
    ∷ s.chain f
    ∷ [])

-- the last field of a line that has once
abbrev pub once_field : Bool → PointSheet → List ℕ
once_field true x = once_of x ∷ []
once_field false x = []

-- the line of a record: all of it but the function, whose line stands above. once: it has that field
unfoldable pub point_text : Bool → Record → List ℕ
point_text once x =
    line_text
    (bytes "  (at")
    (x.at
    ∷ x.figures.high
    ∷ x.figures.dead
    ∷ x.figures.need
    ∷ x.figures.save
    ∷ x.figures.reload
    ∷ x.figures.later
    ∷ x.figures.chain
    ∷ x.figures.cost
    ∷ x.figures.fill
    ∷ once_field once x.figures)

-- the foot line (document 02, request 5): the sum of the costs of records
unfoldable pub total_of : List Record → ℕ
total_of l = sum_of (λ x. x.figures.cost) l

unfoldable pub total_text : List Record → List ℕ
total_text l = line_text (bytes "  (total") (total_of l ∷ [])

-- a function's lines, and the report: the foot line sums the records whose lines are printed. once: the lines of the points have that field
unfoldable pub func_text : Bool → Task → Sheet → ℕ → List ℕ
func_text once t s f = head_text t s f ++ joined (point_text once) (records_in t s f)

unfoldable pub report_with : Bool → Task → Sheet → List ℕ
report_with once t s =
    bytes "(report\n" ++ (joined (func_text once t s) (up_to (count t)) ++ (total_text (records_of t s) ++ bytes ")\n"))

abbrev pub report_text : Bool → (ℕ → ℕ) → Task → List ℕ
report_text once price t = report_with once t (priced_sheet price t)
