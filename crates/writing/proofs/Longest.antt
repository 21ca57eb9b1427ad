-- The longest report and the longest list of the dearest points: of every accepted text, at every price in its range. So an output of that many bytes is
-- never too small, and the services do not refuse by row 14.
use Prim.Native.Nat.{ℕ, ◌^◌, ◌≤◌, ◌<◌}
use native.Mathlib.Omega.{arith}
use mathlib.Core.Bool.{false}
use mathlib.Core.List.{List}
use mathlib.Core.Option.{Option, none, some}
use mathlib.Core.Path.{◌≡◌, refl, ap, sym, ◌∙◌}
use lib.ListN.{length}
use borrow.Author.Tests.{le-leb}
use Rattle.model.specs.declared.Refusal.{Refusal}
use Rattle.model.specs.Limits.{most_stack, most_start, most_each, work_length}
use Rattle.model.specs.Basic.{◌or_else◌}
use Rattle.model.specs.Task.{Task, Judged, refused, task}
use Rattle.model.specs.Sheet.{move_price, counts_blocks, priced_sheet, records_of, total_of, report_text}
use Rattle.model.specs.Dearest.{dearest_text}
use Rattle.model.specs.Refusal.{or_task, with_rows, judged, priced_rows, judge, no_rows, rows_before, output_rows}
use Rattle.model.specs.Services.{cleared, verdict_of, AfterWrite, written_verdict, written_as, written_by, report_of, dearest_of}
use Rattle.model.specs.WellFormed.{Shaped}
use Rattle.theory.proofs.Accepted.{judged-as, judges, accepted}
use Rattle.prices.specs.declared.Price.{Price}
use Rattle.prices.specs.Prices.{price_of, most_price, Small}
use Rattle.prices.proofs.Laws.{price-small}
use Rattle.figures.proofs.Limits.{chain-low, spill-low, points-low}
use Rattle.report.specs.Report.{shows_once, most_report}
use Rattle.report.proofs.Limits.{most_move, move-most, LowSheet, low-records, total-limited, report-limited}
use Rattle.dearest.specs.Ranking.{most_list}
use Rattle.dearest.proofs.Laws.{list-limited}
use Rattle.serving.proofs.Before.{priced-small}
use Rattle.serving.proofs.Laws.{own-rows}

-- the most bytes of a report and of a list, as numbers
pub bytes_most : (most_report ≡ 63967) × (most_list ≡ 220)
bytes_most = (refl, refl)

-- ---- texts

-- the sheet of a task within the limits has low figures, where a move costs at most m; so at every price, and in blocks where the report has once
module _ {t : Task} (s : Shaped t) (price : Price) (small : Small price) where
  task-low : (m : ℕ) → ((n : ℕ) → n ≤ most_stack → price_of price n ≤ m) → LowSheet m t (priced_sheet (price_of price) t)
  task-low m priced = record {
    spill = λ f l. spill-low s price small f;
    chain = λ f l. omega (arith, chain-low s price small f, s.few);
    points = λ f p l i. points-low s price small m priced f p (omega (arith, s.few));
  }

  low-priced : LowSheet most_price t (priced_sheet (price_of price) t)
  low-priced = task-low most_price (λ n h. price-small price n small h)

  low-shown : LowSheet (most_move (shows_once price)) t (priced_sheet (price_of price) t)
  low-shown = task-low (most_move (shows_once price)) (move-most price small)

-- no accepted text has a longer report
pub report-fits : (text : List ℕ) (t : Task) (start each : ℕ) → judged text ≡ task t → start ≤ most_start → each ≤ most_each
    → length (report_text (counts_blocks start each) (move_price start each) t) ≤ most_report
report-fits text t start each e l m =
    let s = (judged-as text t e).formed.shaped in
    report-limited (counts_blocks start each) s (low-shown s (record { start = start; each = each }) (record { start = l; each = m }))

-- nor a longer list
pub list-fits : (text : List ℕ) (t : Task) (start each : ℕ) → judged text ≡ task t → start ≤ most_start → each ≤ most_each
    → length (dearest_text (move_price start each) t) ≤ most_list
list-fits text t start each e l m =
    let s = (judged-as text t e).formed.shaped in
    let low = low-priced s (record { start = start; each = each }) (record { start = l; each = m }) in
    list-limited t (priced_sheet (move_price start each) t) s (low-records low)

-- its total fits 32 bits: 1,024 costs at most
pub total-fits : (text : List ℕ) (t : Task) (start each : ℕ) → judged text ≡ task t → start ≤ most_start → each ≤ most_each
    → total_of (records_of t (priced_sheet (move_price start each) t)) < 2 ^ 32
total-fits text t start each e l m =
    let s = (judged-as text t e).formed.shaped in
    omega (arith, total-limited false s (low-priced s (record { start = start; each = each }) (record { start = l; each = m })))

-- ---- services that write bytes

-- where the bytes of each task that the rows before 14 leave have room in the output, 14 is not met
module _ (first : Option Refusal) (rows : Task → Option Refusal) (print : Task → List ℕ) (text : List ℕ) (n : ℕ)
    (fits : (t : Task) → judge first rows text ≡ task t → length (print t) ≤ n) where
  row-none : (t : Task) → judge first rows text ≡ task t → output_rows print n t ≡ none
  unfolding output_rows
  row-none t e = rw (le-leb (length (print t)) n (fits t e)) refl

  judged-room : judge first (rows_before rows (output_rows print n)) text ≡ judge first rows text
  judged-room =
      own-rows (rows_before rows (output_rows print n)) first text ∙ without (judge first no_rows text) refl ∙ sym (own-rows rows first text)
    where
      more : (t : Task) → judge first no_rows text ≡ task t → (o : Option Refusal) → rows t ≡ o → or_task (o or_else output_rows print n t) t ≡ or_task o t
      more t e (some r) i = refl
      more t e none i =
          ap (λ (o : Option Refusal). or_task o t)
          (row-none t (own-rows rows first text ∙ ap (with_rows rows) e ∙ ap (λ (o : Option Refusal). or_task o t) i))

      without : (j : Judged) → judge first no_rows text ≡ j → with_rows (rows_before rows (output_rows print n)) j ≡ with_rows rows j
      without (refused r) e = refl
      without (task t) e = more t e (rows t) refl

-- so the service writes its bytes, or refuses by another row
module _ (asked : ℕ) (first : Option Refusal) (rows : Task → Option Refusal) (print : Task → List ℕ) (text work output : List ℕ)
    (fits : (t : Task) → judge first rows text ≡ task t → length (print t) ≤ length output) where
  pub room-written : written_by asked first rows print text work output ≡ written_as print (judge first rows text) (cleared asked work) output
  unfolding written_by
  room-written =
      ap (λ (j : Judged). written_as print j (cleared asked work) output) (judged-room first rows print text (length output) fits)

  pub room-verdict : written_verdict (written_by asked first rows print text work output).result ≡ verdict_of (judge first rows text)
  unfolding verdict_of
  room-verdict = ap (λ (x : AfterWrite). written_verdict x.result) room-written ∙ go (judge first rows text)
    where
      go : (j : Judged) → written_verdict (written_as print j (cleared asked work) output).result ≡ verdict_of j
      go (refused r) = refl
      go (task t) = refl

-- at a price: no accepted text has more of these bytes, at any price in its range
abbrev pub AtMost : ℕ → (ℕ → ℕ → Task → List ℕ) → Type 0
AtMost most print = (text : List ℕ) (t : Task) (start each : ℕ) → judged text ≡ task t → start ≤ most_start → each ≤ most_each
    → length (print start each t) ≤ most

module _ (asked : ℕ) (rows : Task → Option Refusal) (print : ℕ → ℕ → Task → List ℕ) (most : ℕ) (bound : AtMost most print)
    (text : List ℕ) (start each : ℕ) (work output : List ℕ) (long : most ≤ length output) where
  abbrev first : Option Refusal
  first = priced_rows asked (length work) start each

  priced-fits : (t : Task) → judge first rows text ≡ task t → length (print start each t) ≤ length output
  priced-fits t e =
      let a = accepted first rows text t e in
      let small = priced-small asked (length work) (record { start = start; each = each }) a.no-first in
      omega (arith, bound text t start each (judges text t a.task) small.start small.each)

  pub priced-verdict : written_verdict (written_by asked first rows (print start each) text work output).result ≡ verdict_of (judge first rows text)
  priced-verdict = room-verdict asked first rows (print start each) text work output priced-fits

-- report and the dearest points
pub report-verdict : (text : List ℕ) (start each : ℕ) (work output : List ℕ) → most_report ≤ length output
    → written_verdict (report_of text start each work output).result ≡ verdict_of (judge (priced_rows work_length (length work) start each) no_rows text)
report-verdict = priced-verdict work_length no_rows (λ start each. report_text (counts_blocks start each) (move_price start each)) most_report report-fits

pub dearest-verdict : (text : List ℕ) (start each : ℕ) (work output : List ℕ) → most_list ≤ length output
    → written_verdict (dearest_of text start each work output).result ≡ verdict_of (judge (priced_rows work_length (length work) start each) no_rows text)
dearest-verdict = priced-verdict work_length no_rows (λ start each. dearest_text (move_price start each)) most_list list-fits
