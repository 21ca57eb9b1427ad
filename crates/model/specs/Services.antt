-- What each service returns and what every lent buffer holds afterwards, for every input; and demand 3 of run, on either core.
use Rattle.std.specs.Prelude.{if◌then◌else◌, ℕ, ◌≤◌, true, List, [], ◌∷◌, ◌++◌, ◌≡◌, length, drop, replicate, ltb, Result, Ok, Err}
use Rattle.std.proofs.Math.Option.{Option, none, some}
use Rattle.model.specs.declared.Refusal.{Refusal}
use Rattle.model.specs.declared.Eviction.{Eviction}
use Rattle.model.specs.declared.Eviction.TheVariants.{Eager}
use Rattle.model.specs.declared.Ending.TheVariants as ending
use Rattle.model.specs.declared.RunResult.{RunResult}
use Rattle.model.specs.Limits.{work_length}
use Rattle.model.specs.Rows.{Verdict, packed, ending_verdict, verdict_numbers}
use Rattle.model.specs.Task.{Task, Judged, refused, task}
use Rattle.model.specs.Sheet.{Sheet, move_price, in_blocks, counts_blocks, priced_sheet, sheet_of, charging_once, report_text}
use Rattle.model.specs.Dearest.{dearest_text}
use Rattle.model.specs.Refusal.{judged, work_row, priced_rows, judge, no_rows, rows_before, output_rows, run_rows}
use Rattle.model.specs.Core.{Core, Clean, idle, holding}
use Rattle.model.specs.Plain.{Event, events_of, Plain, plain}
use Rattle.model.specs.Run.{Ran, ran, allowed}

-- the working space after a service that asks for so many numbers: untouched where it has fewer, else its first numbers are 0 and the rest is untouched
unfoldable pub cleared : ℕ → List ℕ → List ℕ
cleared asked work = if ltb (length work) asked then work else replicate asked 0 ++ drop asked work

-- a buffer whose first numbers are written over
unfoldable pub over : List ℕ → List ℕ → List ℕ
over l buffer = l ++ drop (length l) buffer

-- check: its verdict, and the working space
unfoldable pub verdict_of : Judged → Verdict
verdict_of (refused r) = Err r
verdict_of (task t) = Ok tt

pub record AfterCheck : Type 0 where
  pub verdict : Verdict
  pub work : List ℕ

abbrev pub after_check : Verdict → (work : List ℕ) → AfterCheck
after_check v work = record { verdict = v; work = work }

unfoldable pub check_of : List ℕ → List ℕ → AfterCheck
check_of text work =
    after_check (verdict_of (judge (work_row work_length (length work)) no_rows text)) (cleared work_length work)

-- what was judged as code and place
abbrev pub judged_numbers : Judged → List ℕ
judged_numbers j = verdict_numbers (verdict_of j) []

-- what check judges, the text and the working space
abbrev pub check_judged_of : List ℕ → List ℕ → Judged
check_judged_of text work = judge (work_row work_length (length work)) no_rows text

-- check as C calls it: the text alone, working space of its own, one number
abbrev pub judged_number : Judged → ℕ
judged_number (refused r) = packed r
judged_number (task t) = 0

unfoldable pub check_number : List ℕ → ℕ
check_number text = judged_number (judged text)

-- what a service that writes bytes returns: how many, or a refusal. The verdict that it stands for, and the bytes written, 0 on a refusal
abbrev pub Written : Type 0
Written = Result ℕ Refusal

abbrev pub written_verdict : Written → Verdict
written_verdict (Ok n) = Ok tt
written_verdict (Err r) = Err r

abbrev pub bytes_written : Written → ℕ
bytes_written (Ok n) = n
bytes_written (Err r) = 0

-- a service that writes bytes of the task: its result, the working space and the output
pub record AfterWrite : Type 0 where
  pub result : Written
  pub work : List ℕ
  pub output : List ℕ

abbrev pub after_write : Written → (work output : List ℕ) → AfterWrite
after_write r work output = record { result = r; work = work; output = output }

-- refused by this row, or these bytes are written over the first of the output
abbrev pub written_or : Option Refusal → (bytes work output : List ℕ) → AfterWrite
written_or none bytes work output = after_write (Ok (length bytes)) work (over bytes output)
written_or (some r) bytes work output = after_write (Err r) work output

abbrev pub written_as : (Task → List ℕ) → Judged → List ℕ → List ℕ → AfterWrite
written_as print (refused r) work output = written_or (some r) [] work output
written_as print (task t) work output = written_or none (print t) work output

-- asked: the numbers of the working space that the service asks for; first: the rows that come before those of the text; rows: those of the service
-- that come after them and before 14
unfoldable pub written_by : ℕ → Option Refusal → (Task → Option Refusal) → (Task → List ℕ) → List ℕ → List ℕ → List ℕ → AfterWrite
written_by asked first rows print text work output =
    written_as print (judge first (rows_before rows (output_rows print (length output))) text) (cleared asked work) output

-- a service that has no such rows, on the working space of 01
abbrev pub written_of : Option Refusal → (Task → List ℕ) → List ℕ → List ℕ → List ℕ → AfterWrite
written_of first print text work output = written_by work_length first no_rows print text work output

-- report, a move having this start and this price of each block. With start 0 and each 1 the lines of the points have once
abbrev pub report_of : List ℕ → ℕ → ℕ → List ℕ → List ℕ → AfterWrite
report_of text start each work output =
    written_of (priced_rows work_length (length work) start each) (report_text (counts_blocks start each) (move_price start each)) text work output

-- the report of document 01, with once and the total: in blocks, and without row 23
abbrev pub blocks_report_of : List ℕ → List ℕ → List ℕ → AfterWrite
blocks_report_of text work output = written_of (work_row work_length (length work)) (report_text true in_blocks) text work output

-- the dearest points, at a price as for the report
abbrev pub dearest_of : List ℕ → ℕ → ℕ → List ℕ → List ℕ → AfterWrite
dearest_of text start each work output =
    written_of (priced_rows work_length (length work) start each) (dearest_text (move_price start each)) text work output

-- what a service that writes bytes judges, the report and the dearest points
abbrev pub write_judged : Option Refusal → (Task → Option Refusal) → (Task → List ℕ) → List ℕ → List ℕ → Judged
write_judged first rows print text output = judge first (rows_before rows (output_rows print (length output))) text

abbrev pub report_judged_of : List ℕ → ℕ → ℕ → List ℕ → List ℕ → Judged
report_judged_of text start each work output =
    write_judged (priced_rows work_length (length work) start each) no_rows (report_text (counts_blocks start each) (move_price start each)) text output

abbrev pub dearest_judged_of : List ℕ → ℕ → ℕ → List ℕ → List ℕ → Judged
dearest_judged_of text start each work output =
    write_judged (priced_rows work_length (length work) start each) no_rows (dearest_text (move_price start each)) text output

-- run, on either core: its result, the working space, the answers, the cache and the memory
pub record AfterRun : Type 0 where
  pub result : RunResult
  pub work : List ℕ
  pub answers : List ℕ
  pub cache : List ℕ
  pub memory : List ℕ

abbrev pub after_run : RunResult → (work answers cache memory : List ℕ) → AfterRun
after_run r work answers cache memory = record { result = r; work = work; answers = answers; cache = cache; memory = memory }

abbrev pub result_of : Ran → ℕ → RunResult
result_of r a = record { ending = r.ending; done = r.done; moved = r.moved; allowed = a }

abbrev pub served_as : Ran → ℕ → List ℕ → List ℕ → AfterRun
served_as r a work answers =
    after_run (result_of r a) work (over r.answers answers) r.core.cache r.core.memory

-- sheet: the one that the service charges a task by
abbrev pub run_as : Eviction → (Task → Sheet) → Judged → List ℕ → List Event → List ℕ → List ℕ → List ℕ → AfterRun
run_as x sheet (refused r) work es answers cache memory =
    after_run (record { ending = ending.Refused r; done = 0; moved = 0; allowed = 0 }) work answers cache memory
run_as x sheet (task t) work es answers cache memory =
    served_as (ran t (sheet t) (idle x cache memory) es) (allowed t (sheet t) es) work answers

-- what is judged before the first event: the rows before those of the text, the text, the rows of the service that come after them, and the lengths of
-- the buffers
unfoldable pub run_judged : Option Refusal → (Task → Option Refusal) → List ℕ → List ℕ → List ℕ → List ℕ → List ℕ → Judged
run_judged first rows text events answers cache memory =
    judge first (rows_before rows (run_rows (length events) (length answers) (length cache) (length memory))) text

unfoldable pub run_with : Eviction → (Task → Sheet) → Option Refusal → (Task → Option Refusal) → List ℕ → List ℕ → List ℕ → List ℕ → List ℕ → List ℕ → AfterRun
run_with x sheet first rows text work events answers cache memory =
    run_as
    x
    sheet
    (run_judged first rows text events answers cache memory)
    (cleared work_length work)
    (events_of events)
    answers
    cache
    memory

-- run on the core that evicts so, a move having this start and this price of each block: the service run is run_of Eager, run_lazy is run_of Lazy
abbrev pub run_of : Eviction → List ℕ → ℕ → ℕ → List ℕ → List ℕ → List ℕ → List ℕ → List ℕ → AfterRun
run_of x text start each work events answers cache memory =
    run_with
    x
    (priced_sheet (move_price start each))
    (priced_rows work_length (length work) start each)
    no_rows
    text
    work
    events
    answers
    cache
    memory

-- what both judge
abbrev pub run_judged_of : List ℕ → ℕ → ℕ → List ℕ → List ℕ → List ℕ → List ℕ → List ℕ → Judged
run_judged_of text start each work events answers cache memory =
    run_judged (priced_rows work_length (length work) start each) no_rows text events answers cache memory

-- the run of document 01: in blocks, and without row 23
abbrev pub blocks_run_of : List ℕ → List ℕ → List ℕ → List ℕ → List ℕ → List ℕ → AfterRun
blocks_run_of text work events answers cache memory =
    run_with Eager sheet_of (work_row work_length (length work)) no_rows text work events answers cache memory

-- a service as C calls it: its answer, the buffer of its result, and what is left of the other buffers
pub record Called (A : Type 0) : Type 0 where
  pub answer : ℕ
  pub result : List ℕ
  pub left : A

abbrev pub called : {A : Type 0} → ℕ → List ℕ → A → Called A
called answer result left = record { answer = answer; result = result; left = left }

-- numbers: those of what it returns, which are written over the first of the result; left: what it leaves of the other buffers; lent: these buffers before.
-- Where the result has fewer numbers, the answer is 0 and nothing is touched
unfoldable pub exported : {A : Type 0} → List ℕ → A → A → List ℕ → Called A
exported numbers left lent result =
    if ltb (length result) (length numbers) then called 0 result lent else called 1 (over numbers result) left

-- a service that writes bytes: code, place and bytes written
abbrev pub result_numbers : Written → List ℕ
result_numbers r = verdict_numbers (written_verdict r) (bytes_written r ∷ [])

pub record WriteBuffers : Type 0 where
  pub work : List ℕ
  pub output : List ℕ

abbrev pub write_buffers : (work output : List ℕ) → WriteBuffers
write_buffers work output = record { work = work; output = output }

abbrev pub write_left : AfterWrite → WriteBuffers
write_left after = write_buffers after.work after.output

abbrev pub written_numbers : AfterWrite → WriteBuffers → List ℕ → Called WriteBuffers
written_numbers after lent result = exported (result_numbers after.result) (write_left after) lent result

abbrev pub report_numbers : List ℕ → ℕ → ℕ → List ℕ → List ℕ → List ℕ → Called WriteBuffers
report_numbers text start each work output result =
    written_numbers (report_of text start each work output) (write_buffers work output) result

abbrev pub dearest_numbers : List ℕ → ℕ → ℕ → List ℕ → List ℕ → List ℕ → Called WriteBuffers
dearest_numbers text start each work output result =
    written_numbers (dearest_of text start each work output) (write_buffers work output) result

-- run, on either core: code, place, events done, moved and allowed
abbrev pub run_result_numbers : RunResult → List ℕ
run_result_numbers r = verdict_numbers (ending_verdict r.ending) (r.done ∷ r.moved ∷ r.allowed ∷ [])

pub record RunBuffers : Type 0 where
  pub work : List ℕ
  pub answers : List ℕ
  pub cache : List ℕ
  pub memory : List ℕ

abbrev pub run_buffers : (work answers cache memory : List ℕ) → RunBuffers
run_buffers work answers cache memory = record { work = work; answers = answers; cache = cache; memory = memory }

abbrev pub run_left : AfterRun → RunBuffers
run_left after = run_buffers after.work after.answers after.cache after.memory

abbrev pub run_numbers : Eviction → List ℕ → ℕ → ℕ → List ℕ → List ℕ → List ℕ → List ℕ → List ℕ → List ℕ → Called RunBuffers
run_numbers x text start each work events answers cache memory result =
    let after = run_of x text start each work events answers cache memory in
    exported (run_result_numbers after.result) (run_left after) (run_buffers work answers cache memory) result

-- the plain stack behind the same judgement
abbrev pub plain_as : Judged → List Event → Plain
plain_as (refused r) es = record { ending = ending.Refused r; done = 0; answers = [] }
plain_as (task t) es = plain t es

-- demand 3, of what a run over these events has returned and left, j being what was judged before the first of them: it has ended, counted its events
-- and answered as the plain stack does, and its moves cost at most what the sheet allows
pub record Demand3 (j : Judged) (events answers : List ℕ) (after : AfterRun) : Type 0 where
  pub ending : after.result.ending ≡ (plain_as j (events_of events)).ending
  pub done : after.result.done ≡ (plain_as j (events_of events)).done
  pub answered : after.answers ≡ over (plain_as j (events_of events)).answers answers
  pub bounded : after.result.moved ≤ after.result.allowed

-- the core that a run leaves: after the last event done, or as it was before the first
abbrev pub core_as : Eviction → (Task → Sheet) → Judged → List Event → List ℕ → List ℕ → Core
core_as x sheet (refused r) es cache memory = idle x cache memory
core_as x sheet (task t) es cache memory = (ran t (sheet t) (idle x cache memory) es).core

-- of what a run on these buffers has left: with ST, MT and LP where it leaves them, LP is at most MT, and each block of the cache from LP up to MT
-- equals its number in the memory
abbrev pub LeavesClean : Eviction → (Task → Sheet) → Judged → (events cache memory : List ℕ) → AfterRun → Type 0
LeavesClean x sheet j events cache memory after =
    Clean (holding after.cache after.memory (core_as x sheet j (events_of events) cache memory))

-- document 02, request 7, of what a run has moved in blocks over the events of an accepted text: at most the spills and fills on the sheet and once of
-- each point at which it was preempted. So where there is exactly one preemption among the events done (Preemptions): the spills, the fills and once of
-- its point
abbrev pub PaysOnce : (Task → Sheet) → Judged → List Event → ℕ → Type 0
PaysOnce sheet (refused r) es moved = Unit {0}
PaysOnce sheet (task t) es moved = moved ≤ allowed t (charging_once (sheet t)) es
