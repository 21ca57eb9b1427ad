-- How long the lines of a report can be, and how large the total: of every task and every sheet whose figures are low, and so of the sheet in the columns.
use Prim.Native.Nat.{ℕ, ◌+◌, ◌*◌, ◌≤◌, ◌<◌}
use native.Mathlib.Omega.{arith}
use mathlib.Core.Bool.{Bool, true, false}
use mathlib.Core.Path.{◌≡◌, refl, ap, sym, ◌∙◌}
use lib.Dec.{T, eqb, eqb→eq}
use mathlib.Core.List.{List, [], ◌∷◌, Memᴰ}
use lib.ListN.{length, length-append}
use Rattle.model.specs.Limits.{most_stack, most_funcs, most_points}
use Rattle.model.specs.Basic.{joined, sum_of, up_to}
use Rattle.model.specs.Text.{bytes}
use Rattle.model.specs.Task.{Task, size, count, in_all, func}
use Rattle.model.specs.Figures as model
use Rattle.model.specs.Sheet.{Sheet, PointSheet, move_price, Record, records_in, records_of, total_of, point_text, head_text, total_text, func_text, report_with}
use Rattle.model.specs.WellFormed.{Shaped}
use Rattle.theory.proofs.Lists.{and-holds, mem-up_to, length-up_to, sum-most, sum-joined, length-joined}
use Rattle.theory.proofs.Prices.{moves-blocks}
use Rattle.theory.proofs.Dearest.{record_is}
use Rattle.theory.proofs.Total.{records-count}
use Rattle.tables.specs.declared.Header.{Header}
use Rattle.tables.specs.Tables.{size_at, task_of}
use Rattle.tables.proofs.Laws.{count-is, size_is, sum-funcs}
use Rattle.prices.specs.declared.Price.{Price}
use Rattle.prices.specs.Prices.{price_of, most_price, Small}
use Rattle.prices.proofs.Laws.{price-small}
use Rattle.columns.specs.Values.{most_chain}
use Rattle.columns.proofs.Limits.{frame-low, longest-low, shortest-low}
use Rattle.readout.specs.Sheet.{sheet_in}
use Rattle.readout.specs.Readable.{Readable}
use Rattle.readout.proofs.Limits.{Low, figures-within, figures-low, spill-low, chain-low}
use Rattle.print.proofs.Digits.{Within, taken, digits-line}
use Rattle.report.specs.Report.{Sums, shows_once, point_numbers, funcs_part, report_in, Room, most_total}
use Rattle.report.specs.Report.{most_point_text, most_head_text, most_foot_text, ends_text, most_length, most_report}
use Rattle.report.proofs.Laws.{report-length, report-size, total-all}
use Rattle.report.proofs.PointDigits.{point_digits, once_digits, point-digits, once-digits}

-- the numbers of a function's first line, and their digits
abbrev head_numbers : Task → Sheet → ℕ → List ℕ
head_numbers t s f = f ∷ (func t f).frame ∷ model.shortest t f ∷ model.longest t f ∷ s.spill f ∷ s.chain f ∷ []

abbrev head_digits : List ℕ
head_digits = 2 ∷ 2 ∷ 4 ∷ 4 ∷ 5 ∷ 7 ∷ []

-- ---- the most that a move costs, in blocks and at every price

abbrev pub most_move : Bool → ℕ
most_move true = most_stack
most_move false = most_price

move-low : (once : Bool) → most_move once ≤ most_price
move-low true = omega arith
move-low false = omega arith

-- in blocks a price is the number of blocks
price-blocks : (price : Price) → T (shows_once price) → (n : ℕ) → price_of price n ≡ n
price-blocks price b n =
    let r = (and-holds (eqb price.start 0) (eqb price.each 1)).0 b in
    let e = eqb→eq price.start 0 r.0 in
    let k = eqb→eq price.each 1 r.1 in
    ap (λ (m : ℕ). move_price m price.each n) e ∙ ap (λ (m : ℕ). move_price 0 m n) k ∙ ap (λ (g : ℕ → ℕ). g n) moves-blocks

pub move-most : (price : Price) → Small price → (n : ℕ) → n ≤ most_stack → price_of price n ≤ most_move (shows_once price)
move-most price small n h = go (shows_once price) refl
  where
    go : (b : Bool) → shows_once price ≡ b → price_of price n ≤ most_move b
    go true e = omega (arith, price-blocks price (rw e tt) n)
    go false e = price-small price n small h

-- ---- a line

point-most : (once : Bool) (x : Record) → x.at < most_points → Low (most_move once) x.figures → length (point_text once x) ≤ most_point_text
unfolding point_text taken
point-most true x m l =
    omega (arith, digits-line (bytes "  (at") (point_numbers true x.at x.figures) once_digits (once-digits x.at x.figures m l))
point-most false x m l =
    omega (arith, digits-line (bytes "  (at") (point_numbers false x.at x.figures) point_digits (point-digits x.at x.figures m l))

-- ---- a sheet of the task t whose figures are low, where a move at a point costs at most m

pub record LowSheet (m : ℕ) (t : Task) (s : Sheet) : Type 0 where
  pub spill : (f : ℕ) → f < count t → s.spill f ≤ most_price
  pub chain : (f : ℕ) → f < count t → s.chain f ≤ most_chain
  pub points : (f p : ℕ) → f < count t → p < size (func t f) → Low m (s.at f p)

-- so are those of each record of its report
pub low-records : {m : ℕ} {t : Task} {s : Sheet} → LowSheet m t s → (x : Record) → Memᴰ x (records_of t s) → Low m x.figures
low-records {t = t} {s = s} low x i = let r = record_is s t i in rw r.4 (low.points r.0 r.1 r.2 r.3)

-- the lines of the functions are their first lines, and a line for each record
sum_both : {A : Type 0} (f g : A → ℕ) (l : List A) → sum_of (λ a. f a + g a) l ≡ sum_of f l + sum_of g l
unfolding sum_of
sum_both f g [] = omega arith
sum_both f g (a ∷ l) = omega (arith, sum_both f g l)

module _ (once : Bool) (t : Task) (s : Sheet) where
  func-length : (f : ℕ) → length (func_text once t s f) ≡ length (head_text t s f) + sum_of (λ x. length (point_text once x)) (records_in t s f)
  unfolding func_text
  func-length f =
      length-append (head_text t s f) (joined (point_text once) (records_in t s f))
      ∙ ap (λ (n : ℕ). length (head_text t s f) + n) (length-joined (point_text once) (records_in t s f))

  funcs_length : length (joined (func_text once t s) (up_to (count t)))
      ≡ sum_of (λ f. length (head_text t s f)) (up_to (count t)) + sum_of (λ x. length (point_text once x)) (records_of t s)
  unfolding records_of
  funcs_length =
      let points : Record → ℕ = λ x. length (point_text once x) in
      length-joined (func_text once t s) (up_to (count t))
      ∙ ap (λ (g : ℕ → ℕ). sum_of g (up_to (count t))) (λ i f. func-length f i)
      ∙ sum_both (λ f. length (head_text t s f)) (λ f. sum_of points (records_in t s f)) (up_to (count t))
      ∙ ap (λ (n : ℕ). sum_of (λ f. length (head_text t s f)) (up_to (count t)) + n) (sym (sum-joined points (records_in t s) (up_to (count t))))

module _ (once : Bool) {t : Task} {s : Sheet} (shaped : Shaped t) (low : LowSheet (most_move once) t s) where
  -- the line of a record
  record-most : (x : Record) → Memᴰ x (records_of t s) → length (point_text once x) ≤ most_point_text
  record-most x i =
      let r = record_is s t i in
      point-most once x (rw r.4 (omega (arith, r.3, shaped.small r.0 r.2))) (low-records low x i)

  -- the first line of a function
  head-digits : (f : ℕ) → f < count t → Within (head_numbers t s f) head_digits
  head-digits f l =
      omega (
        arith,
        shaped.few,
        frame-low shaped f,
        shaped.stack_high,
        shortest-low shaped f,
        longest-low shaped f,
        low.spill f l,
        low.chain f l,
      )

  head-most : (f : ℕ) → f < count t → length (head_text t s f) ≤ most_head_text
  unfolding head_text taken
  head-most f l = omega (arith, digits-line (bytes "  (func") (head_numbers t s f) head_digits (head-digits f l))

  -- the total: at most 1,024 costs
  pub total-limited : total_of (records_of t s) ≤ most_total
  unfolding total_of
  total-limited =
      let each = sum-most (λ (x : Record). x.figures.cost) (most_price * (most_funcs + 2)) (records_of t s)
      (λ x i. omega (arith, (low-records low x i).cost, move-low once)) in
      omega (arith, each, records-count t s, shaped.all)

  -- the foot line
  foot-most : length (total_text (records_of t s)) ≤ most_foot_text
  unfolding total_text taken
  foot-most = omega (arith, digits-line (bytes "  (total") (total_of (records_of t s) ∷ []) (10 ∷ []) (omega (arith, total-limited)))

  -- the report, by the functions and the points of the task
  report-within : length (report_with once t s) ≤ ends_text + most_foot_text + most_head_text * count t + most_point_text * in_all t.funcs
  report-within =
      omega (
        arith,
        report-length once t s,
        funcs_length once t s,
        sum-most (λ f. length (head_text t s f)) most_head_text (up_to (count t)) (λ f i. head-most f ((mem-up_to (count t)).0 i)),
        length-up_to (count t),
        sum-most (λ x. length (point_text once x)) most_point_text (records_of t s) record-most,
        records-count t s,
        foot-most,
      )

  pub report-limited : length (report_with once t s) ≤ most_report
  report-limited = omega (arith, report-within, shaped.few, shaped.all)

-- ---- the sheet in the columns

-- the figures of a point as they were read are small enough to add
pub sums-read : {price : Price} {w : List ℕ} {h : Header} {f : ℕ} {x : PointSheet} → Readable price w h → f < h.funcs → (p : ℕ) → p < size_at w f
    → x ≡ (sheet_in price w h).at f p → Sums x
sums-read {f = f} k l p i e =
    let l = figures-low k f l p i in
    rw e (record { save = l.save; reload = l.reload; later = l.later; chain = omega (arith, l.chain) })

module _ {price : Price} {w : List ℕ} {h : Header} (k : Readable price w h) where
  columns-low : LowSheet (most_move (shows_once price)) (task_of w h) (sheet_in price w h)
  columns-low = record {
    spill = λ f l. spill-low k f (rw (count-is w h) at l);
    chain = λ f l. chain-low k f (rw (count-is w h) at l);
    points = λ f p l i.
        let n : f < h.funcs = rw (count-is w h) at l in
        figures-within k f n (most_move (shows_once price)) (move-most price k.small) p (rw (size_is w h f n) at i);
  }

  -- the total of the sheet
  pub total-low : total_of (records_of (task_of w h) (sheet_in price w h)) ≤ most_total
  total-low = total-limited (shows_once price) k.settled.formed.shaped columns-low

  pub report-most : length (report_in price w h) ≤ most_length h
  report-most =
      omega (
        arith,
        report-within (shows_once price) k.settled.formed.shaped columns-low,
        count-is w h,
        sum-funcs k.settled.holds.stacked,
      )

  pub report-small : length (report_in price w h) ≤ most_report
  report-small = report-limited (shows_once price) k.settled.formed.shaped columns-low

  -- all functions have room after the first line, where the report has
  pub funcs-room : (e : ℕ) {r : ℕ} → e + length (report_in price w h) ≤ r → Room (e + length (bytes "(report\n")) (funcs_part price w h h.funcs) r
  funcs-room e l = record {
    bytes = omega (arith, report-size price w h);
    sum = omega (arith, total-all price w h, total-low);
  }
