-- The lines of the report by the figures that are read back, part after part.
use Prim.Native.Nat.{ℕ, ◌+◌, ◌≤◌, ◌<◌, zero-le}
use native.Mathlib.Omega.{arith}
use mathlib.Core.Bool.{Bool, true, false}
use mathlib.Core.Path.{◌≡◌, refl, ap, sym, ◌∙◌}
use mathlib.Core.List.{List, [], ◌∷◌, ◌++◌, append_assoc}
use lib.ListN.{length, take, length-append}
use Rattle.model.specs.Basic.{joined, sum_of, count_from, up_to}
use Rattle.model.specs.Text.{bytes}
use Rattle.model.specs.Task.{Task, count}
use Rattle.model.specs.Services.{over}
use Rattle.model.specs.Sheet.{Sheet, PointSheet, line_text, record_at, records_in, records_of, total_of, total_text, head_text, point_text, func_text, report_with}
use Rattle.theory.proofs.Lists.{joined-map, joined-next, sum-joined, sum-next, sum_room}
use Rattle.theory.proofs.Total.{total-in}
use Rattle.tables.specs.declared.Header.{Header}
use Rattle.tables.specs.Tables.{size_at, task_of}
use Rattle.tables.proofs.Laws.{size_is, count-is}
use Rattle.prices.specs.declared.Price.{Price}
use Rattle.print.specs.Print.{Wrote}
use Rattle.print.specs.Wrote.{wrote_on}
use Rattle.print.specs.Sink.{SinkLaws}
use Rattle.print.proofs.Laws.{wrote-over}
use Rattle.print.proofs.Sinks.{then, room-after, piece-room}
use Rattle.readout.specs.declared.FuncFigures.{FuncFigures}
use Rattle.readout.specs.Sheet.{sheet_in}
use Rattle.readout.specs.Readable.{func_figures}
use Rattle.report.specs.Report.{Part, both, first_parts, shows_once, point_numbers, at_text, points_part, head_part, func_part, funcs_part, foot_text, report_in, ends_text}
use Rattle.report.specs.Report.{Room, Adds, shown, most_total}

-- ---- parts that are put into a sink one after the other

next-part : (part : ℕ → Part) (n : ℕ) → first_parts part (n + 1) ≡ both (first_parts part n) (part n)
next-part part n = λ i. record { text = joined-next (λ k. (part k).text) n i; cost = sum-next (λ k. (part k).cost) n i }

module _ {S : Type 0} {end room : S → ℕ} {Puts : List ℕ → S → S → Type 0} (laws : SinkLaws end room Puts) where
  -- two parts, and the room of each
  pub adds-both : (a b : Part) {s t u : S} {k m r : ℕ} → r ≡ k + m → Adds Puts a s k t → Adds Puts b t m u → Adds Puts (both a b) s r u
  adds-both a b e x y = record { put = then laws x.put y.put; sum = omega (arith, e, x.sum, y.sum) }

  pub room-first : (a b : Part) {s : S} → Room (end s) (both a b) (room s) → Room (end s) a (room s)
  room-first a b x = record { bytes = omega (arith, x.bytes, length-append a.text b.text); sum = omega (arith, x.sum) }

  pub room-second : (a b : Part) {s t : S} → Room (end s) (both a b) (room s) → Puts a.text s t → Room (end t) b (room t)
  room-second a b x p =
      record { bytes = room-after laws (length b.text) (omega (arith, x.bytes, length-append a.text b.text)) p; sum = omega (arith, x.sum) }

  -- the first of many: none, one more, its room, and the sum with it
  module _ (part : ℕ → Part) where
    pub none-added : (s : S) → end s ≤ room s → Adds Puts (first_parts part 0) s 0 s
    unfolding joined sum_of count_from
    none-added s h = record { put = laws.nothing s h; sum = omega arith }

    pub next-added : (n : ℕ) {s t u : S} {k m r : ℕ} → r ≡ k + m → Adds Puts (first_parts part n) s k t → Adds Puts (part n) t m u
        → Adds Puts (first_parts part (n + 1)) s r u
    next-added n e x y = rw (next-part part n) (adds-both (first_parts part n) (part n) e x y)

    module _ (k n : ℕ) {s t : S} {z : ℕ} (h : k < n) (x : Room (end s) (first_parts part n) (room s)) (y : Adds Puts (first_parts part k) s z t) where
      pub next-has-room : Room (end t) (part k) (room t)
      next-has-room = record {
        bytes = piece-room laws (λ i. (part i).text) k n h x.bytes y.put;
        sum = omega (arith, x.sum, sum_room (λ i. (part i).cost) k n h);
      }

      pub next-sum : {u : S} {r : ℕ} → Adds Puts (part k) t r u → z + r ≤ most_total
      next-sum a = omega (arith, x.sum, y.sum, a.sum, sum_room (λ i. (part i).cost) k n h)

-- ---- the parts of the report

-- the line of a point by its figures, and the line that opens a function
pub point-text : {x y : PointSheet} (price : Price) (f p : ℕ) → x ≡ y → at_text price p x ≡ point_text (shows_once price) (record { fn = f; at = p; figures = y })
unfolding point_text
point-text price f p e = ap (λ (z : PointSheet). at_text price p z) e

-- the numbers that it shows
pub shown-numbers : (b : Bool) (p : ℕ) (x : PointSheet) → take (shown b) (point_numbers true p x) ≡ point_numbers b p x
shown-numbers true p x = refl
shown-numbers false p x = refl

-- the line of point p of function f, by its figures and its numbers
pub point-line : (price : Price) (f : ℕ) {p k : ℕ} {x y : PointSheet} {numbers : List ℕ} → x ≡ y → numbers ≡ point_numbers true p x
    → k ≡ shown (shows_once price)
    → line_text (bytes "  (at") (take k numbers) ≡ point_text (shows_once price) (record { fn = f; at = p; figures = y })
point-line price f {p} {x = x} e i j = rw (i, j, shown-numbers (shows_once price) p x) (point-text price f p e)

pub head-text : (price : Price) (w : List ℕ) (h : Header) (f : ℕ) (r : FuncFigures) → r ≡ func_figures price w h f
    → line_text (bytes "  (func") (f ∷ r.frame ∷ r.shortest ∷ r.longest ∷ r.spill ∷ r.chain ∷ []) ≡ (head_part price w h f).text
unfolding head_text func_figures
head-text price w h f r e = ap (λ (x : FuncFigures). line_text (bytes "  (func") (f ∷ x.frame ∷ x.shortest ∷ x.longest ∷ x.spill ∷ x.chain ∷ [])) e

-- the lines of a function: the one that opens it, and those of its points
module _ (price : Price) (w : List ℕ) (h : Header) (f : ℕ) (l : f < h.funcs) where
  func-lines : (func_part price w h f).text ≡ (head_part price w h f).text ++ (points_part price w h f (size_at w f)).text
  unfolding func_text records_in
  func-lines =
      let t = task_of w h in
      ap
      (λ (r : List ℕ). (head_part price w h f).text ++ r)
      (joined-map (point_text (shows_once price)) (record_at (sheet_in price w h) f) _ _ (λ p m. refl) ∙ ap (λ (n : ℕ). (points_part price w h f n).text) (size_is w h f l))

  func-cost : (func_part price w h f).cost ≡ 0 + (points_part price w h f (size_at w f)).cost
  func-cost =
      let t = task_of w h in
      omega (arith, total-in t (sheet_in price w h) f, ap (λ (n : ℕ). (points_part price w h f n).cost) (size_is w h f l))

  pub func-parts : func_part price w h f ≡ both (head_part price w h f) (points_part price w h f (size_at w f))
  func-parts = λ i. record { text = func-lines i; cost = func-cost i }

-- the length of a report: that of its first and its last line, of the lines of the functions and of the foot line
pub report-length : (once : Bool) (t : Task) (s : Sheet) → length (report_with once t s)
    ≡ ends_text + length (joined (func_text once t s) (up_to (count t))) + length (total_text (records_of t s))
unfolding report_with
report-length once t s =
    let l = joined (func_text once t s) (up_to (count t)) in
    let foot = total_text (records_of t s) in
    omega (
      arith,
      length-append (bytes "(report\n") (l ++ (foot ++ bytes ")\n")),
      length-append l (foot ++ bytes ")\n"),
      length-append foot (bytes ")\n"),
    )

-- the costs of all functions are the total
module _ (price : Price) (w : List ℕ) (h : Header) where
  pub total-all : (funcs_part price w h h.funcs).cost ≡ total_of (records_of (task_of w h) (sheet_in price w h))
  unfolding total_of records_of
  total-all =
      let t = task_of w h in
      ap (λ (n : ℕ). (funcs_part price w h n).cost) (sym (count-is w h)) ∙ sym (sum-joined (λ x. x.figures.cost) (records_in t (sheet_in price w h)) (up_to (count t)))

  -- the report: its first line, those of the functions, the foot line, and its last
  report-lines : report_in price w h
      ≡ bytes "(report\n" ++ (funcs_part price w h h.funcs).text ++ foot_text price w h ++ bytes ")\n"
  unfolding report_with
  report-lines =
      let t = task_of w h in
      let foot = foot_text price w h in
      let funcs = (funcs_part price w h h.funcs).text in
      ap (λ (n : ℕ). bytes "(report\n" ++ ((funcs_part price w h n).text ++ (foot ++ bytes ")\n"))) (count-is w h)
      ∙ sym (append_assoc (bytes "(report\n") funcs (foot ++ bytes ")\n"))
      ∙ sym (append_assoc (bytes "(report\n" ++ funcs) foot (bytes ")\n"))

  pub report-size : length (report_in price w h)
      ≡ ends_text + length (funcs_part price w h h.funcs).text + length (foot_text price w h)
  report-size =
      report-length (shows_once price) (task_of w h) (sheet_in price w h)
      ∙ ap (λ (n : ℕ). ends_text + length (funcs_part price w h n).text + length (foot_text price w h)) (count-is w h)

  -- the foot line, by the sum of the costs of all functions
  pub foot-text : (n : ℕ) → n ≡ (funcs_part price w h h.funcs).cost → line_text (bytes "  (total") (n ∷ []) ≡ foot_text price w h
  unfolding total_text
  foot-text n e = ap (λ (m : ℕ). line_text (bytes "  (total") (m ∷ [])) (omega (arith, e, total-all))

  -- the report, put line after line
  pub report-put : {S : Type 0} {end room : S → ℕ} {Puts : List ℕ → S → S → Type 0} (laws : SinkLaws end room Puts) {s t u v z : S}
      → Puts (bytes "(report\n") s t → Puts (funcs_part price w h h.funcs).text t u → Puts (foot_text price w h) u v → Puts (bytes ")\n") v z
      → Puts (report_in price w h) s z
  report-put laws a b c d = rw report-lines (then laws (then laws (then laws a b) c) d)

  -- the same of a buffer, written line after line
  pub report-wrote : {e r y z : ℕ} {out o o' o'' o''' : List ℕ} → Wrote 0 (bytes "(report\n") out e o
      → Wrote e (funcs_part price w h h.funcs).text o r o' → Wrote r (foot_text price w h) o' y o'' → Wrote y (bytes ")\n") o'' z o'''
      → (z ≡ length (report_in price w h)) × (o''' ≡ over (report_in price w h) out)
  report-wrote {z = z} {out = out} {o''' = o'''} a b c d =
      let l = report_in price w h in
      let x : Wrote 0 l out z o''' = rw report-lines (wrote_on zero-le (wrote_on zero-le (wrote_on zero-le a b) c) d) in
      wrote-over l out x
