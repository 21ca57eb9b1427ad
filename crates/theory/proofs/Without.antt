-- Document 02, request 14: the empty text in every service, at every price and with all buffers. It is a task without a stack, and no other text is.
use Prim.Native.Nat.{ℕ, ◌≤◌}
use mathlib.Core.Bool.{Bool}
use mathlib.Core.List.{List, [], ◌∷◌, ◌++◌}
use mathlib.Core.Option.{Option, none, some}
use mathlib.Core.Path.{◌≡◌, refl, ap, ◌∙◌}
use native.Mathlib.Omega.{arith}
use lib.Dec.{leb, leb-zero}
use lib.ListN.{length, length-append}
use Rattle.model.specs.declared.Eviction.{Eviction}
use Rattle.model.specs.declared.Row.TheVariants.{OutputTooSmall}
use Rattle.model.specs.declared.Refusal.{Refusal}
use Rattle.model.specs.Limits.{work_length}
use Rattle.model.specs.Basic.{unless, ◌or_else◌, joined, up_to}
use Rattle.model.specs.Rows.{refuse, row_verdict}
use Rattle.model.specs.Text.{bytes}
use Rattle.model.specs.Task.{Task, count, without, Judged, task}
use Rattle.model.specs.Core.{Core, idle}
use Rattle.model.specs.Figures.{longest, longest_to}
use Rattle.model.specs.Sheet.{Sheet, move_price, counts_blocks, priced_sheet, decimal, line_text, Record, records_of, total_of, total_text, func_text, report_with, report_text}
use Rattle.model.specs.Dearest.{dearest_text}
use Rattle.model.specs.Refusal.{work_row, priced_rows, output_rows, run_rows, judged, judge, no_rows, or_task, with_rows}
use Rattle.model.specs.Plain.{Event, events_of, plain}
use Rattle.model.specs.Run.{Ran, ran, allowed}
use Rattle.model.specs.Services.{cleared, over, verdict_of, AfterCheck, after_check, check_of, check_number, AfterWrite, written_or, written_as, written_by, written_of, report_of}
use Rattle.model.specs.Services.{dearest_of, AfterRun, served_as, run_as, run_judged, run_with, run_of}
use Rattle.model.specs.Opened.{opened}
use Rattle.theory.specs.Without.{empty_report, first_row, none_ran, none_plain, untouched}
use Rattle.theory.proofs.Accepted.{judged-as}
use Rattle.theory.proofs.Reading.{read_some}
use Rattle.theory.proofs.Decimal.{decimal-some}
use Rattle.theory.proofs.Fair.{finished-ran, finished-plain, finished-allowed, ran-none, allowed-none}

-- ---- the text

-- it is a task of no functions
pub empty-judged : judged [] ≡ task without
unfolding opened
empty-judged = refl

-- and no other text is
pub only-empty : (text : List ℕ) (t : Task) → judged text ≡ task t → count t ≡ 0 → text ≡ []
only-empty [] t e z = refl
only-empty (b ∷ text) t e z = absurd (omega (arith, read_some (b ∷ text) t (omega arith) (judged-as (b ∷ text) t e).reads))

-- no service refuses it as a text: only the rows before those of the text, and the service's own
empty-judge : (first : Option Refusal) (own : Task → Option Refusal) → judge first own [] ≡ or_task (first or_else own without) without
unfolding judge
empty-judge none own = ap (with_rows own) empty-judged
empty-judge (some r) own = refl

or-none : (o : Option Refusal) → (o or_else none) ≡ o
or-none none = refl
or-none (some r) = refl

-- check, and check as C calls it
pub empty-check : (work : List ℕ) → check_of [] work ≡ after_check (row_verdict (work_row work_length (length work))) (cleared work_length work)
unfolding check_of
empty-check work =
    ap after (empty-judge first no_rows) ∙ ap (λ (o : Option Refusal). after (or_task o without)) (or-none first) ∙ go first
  where
    first : Option Refusal
    first = work_row work_length (length work)

    after : Judged → AfterCheck
    after j = after_check (verdict_of j) (cleared work_length work)

    go : (o : Option Refusal) → after (or_task o without) ≡ after_check (row_verdict o) (cleared work_length work)
    go none = unfold verdict_of in refl
    go (some r) = unfold verdict_of in refl

pub empty-number : check_number [] ≡ 0
unfolding opened
empty-number = refl

-- ---- what is written

-- its report, with once on the lines of points and without, at every price
pub empty-report : (once : Bool) (price : ℕ → ℕ) → report_text once price without ≡ empty_report
unfolding opened
empty-report once price = refl

-- no report has fewer bytes
total-least : (l : List Record) → 12 ≤ length (total_text l)
unfolding total_text line_text joined
total-least l = omega (arith, decimal-some (total_of l), length-append (decimal (total_of l) ++ []) (bytes ")\n"), length-append (decimal (total_of l)) [])

pub report-least : (once : Bool) (t : Task) (s : Sheet) → length empty_report ≤ length (report_with once t s)
unfolding report_with
report-least once t s =
    let foot = total_text (records_of t s) in
    omega (
      arith,
      total-least (records_of t s),
      length-append (joined (func_text once t s) (up_to (count t))) (foot ++ bytes ")\n"),
      length-append foot (bytes ")\n"),
    )

-- it has no dearest point
pub empty-dearest : (price : ℕ → ℕ) → dearest_text price without ≡ []
unfolding opened
empty-dearest price = refl

-- a service that writes these bytes of a task without a stack: the rows before those of the text, and 14
empty-written : (first : Option Refusal) (print : Task → List ℕ) (l : List ℕ) → print without ≡ l → (work output : List ℕ)
    → written_of first print [] work output
    ≡ written_or (first or_else unless (leb (length l) (length output)) (refuse OutputTooSmall (length l))) l (cleared work_length work) output
unfolding written_by output_rows
empty-written first print l e work output =
    ap after (empty-judge first (output_rows print (length output))) ∙ go (first or_else output_rows print (length output) without)
    ∙ ap (λ (m : List ℕ). written_or (first or_else unless (leb (length m) (length output)) (refuse OutputTooSmall (length m))) m (cleared work_length work) output) e
  where
    after : Judged → AfterWrite
    after j = written_as print j (cleared work_length work) output

    go : (o : Option Refusal) → after (or_task o without) ≡ written_or o (print without) (cleared work_length work) output
    go none = refl
    go (some r) = refl

-- report: 15, 23 and 14, or the 22 bytes
pub empty-reported : (start each : ℕ) (work output : List ℕ)
    → report_of [] start each work output
    ≡ written_or (priced_rows work_length (length work) start each or_else unless (leb 22 (length output)) (refuse OutputTooSmall 22)) empty_report
    (cleared work_length work) output
empty-reported start each work output =
    empty-written (priced_rows work_length (length work) start each) (report_text (counts_blocks start each) (move_price start each)) empty_report
    (empty-report (counts_blocks start each) (move_price start each)) work output

-- the dearest points: 15 and 23, or no byte
pub empty-listed : (start each : ℕ) (work output : List ℕ)
    → dearest_of [] start each work output ≡ written_or (priced_rows work_length (length work) start each) [] (cleared work_length work) output
empty-listed start each work output =
    let first = priced_rows work_length (length work) start each in
    empty-written first (dearest_text (move_price start each)) [] (empty-dearest (move_price start each)) work output
    ∙ ap (λ (o : Option Refusal). written_or o [] (cleared work_length work) output)
    (ap (λ (b : Bool). first or_else unless b (refuse OutputTooSmall 0)) (leb-zero (length output)) ∙ or-none first)

-- ---- its run

-- no event is done, nothing is moved and the core is as it was: with every sheet, on every core
pub without-run : (s : Sheet) (c : Core) (es : List Event)
    → ((ran without s c es).done ≡ 0) × ((ran without s c es).moved ≡ 0) × ((ran without s c es).core ≡ c)
without-run s c es =
    let e : ran without s c es ≡ none_ran (first_row es) c = finished-ran without s c es in
    (ap (λ (r : Ran). r.done) e, ap (λ (r : Ran). r.moved) e, ap (λ (r : Ran). r.core) e)

-- and so it is of the plain stack
pub without-plain : (es : List Event) → plain without es ≡ none_plain (first_row es)
without-plain es = finished-plain without es

-- the service, of every task of no functions, by every sheet
pub finished-run : (x : Eviction) (sheet : Task → Sheet) (t : Task) → count t ≡ 0 → (work : List ℕ) (es : List Event) (answers cache memory : List ℕ)
    → run_as x sheet (task t) work es answers cache memory ≡ untouched (first_row es) work answers cache memory
unfolding over
finished-run x sheet t z work es answers cache memory =
    let s = sheet t in
    let c = idle x cache memory in
    ap (λ (r : Ran). served_as r (allowed t s es) work answers) (ran-none t s c es z ∙ finished-ran t s c es)
    ∙ ap (λ (n : ℕ). served_as (none_ran (first_row es) c) n work answers) (allowed-none t s es z ∙ finished-allowed t s es)

-- it asks for no memory
pub longest-none : (t : Task) → count t ≡ 0 → longest t 0 ≡ 0
unfolding longest longest_to
longest-none t z = ap (λ (n : ℕ). longest_to t n 0) z

-- its rows 16 to 19 are the same for every cache and memory
pub without-rows : (events answers cache memory cache' memory' : ℕ)
    → run_rows events answers cache memory without ≡ run_rows events answers cache' memory' without
unfolding run_rows longest longest_to
without-rows events answers cache memory cache' memory' = rw (leb-zero memory, leb-zero memory') refl

-- run and run_lazy: 15 and 23, 16 and 17, then 22 at the first event; whatever cache and memory are, nothing in them changes
pub empty-run : (x : Eviction) (start each : ℕ) (work events answers cache memory : List ℕ)
    → run_of x [] start each work events answers cache memory
    ≡ untouched ((priced_rows work_length (length work) start each or_else run_rows (length events) (length answers) 0 0 without) or_else first_row (events_of events))
    (cleared work_length work) answers cache memory
unfolding run_with run_judged
empty-run x start each work events answers cache memory =
    ap after (empty-judge first (run_rows (length events) (length answers) (length cache) (length memory)))
    ∙ ap (λ (o : Option Refusal). after (or_task (first or_else o) without)) (without-rows (length events) (length answers) (length cache) (length memory) 0 0)
    ∙ go (first or_else run_rows (length events) (length answers) 0 0 without)
  where
    first : Option Refusal
    first = priced_rows work_length (length work) start each

    after : Judged → AfterRun
    after j = run_as x (priced_sheet (move_price start each)) j (cleared work_length work) (events_of events) answers cache memory

    go : (o : Option Refusal) → after (or_task o without) ≡ untouched (o or_else first_row (events_of events)) (cleared work_length work) answers cache memory
    go none = finished-run x (priced_sheet (move_price start each)) without refl (cleared work_length work) (events_of events) answers cache memory
    go (some r) = refl
