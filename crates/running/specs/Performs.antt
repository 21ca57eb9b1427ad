-- 16, 17 and 18; what run returns where it does no event; and what it returns and leaves of a text that is judged.
use Rattle.std.specs.Prelude.{ℕ, ◌/◌, ◌%◌, ◌&&◌, ◌||◌, ◌≡◌, List, eqb, leb, length, Result, Ok, Err}
use Rattle.std.proofs.Math.Option.{Option, some}
use Rattle.model.specs.declared.Eviction.{Eviction}
use Rattle.model.specs.declared.Refusal.{Refusal}
use Rattle.model.specs.declared.Row.TheVariants.{EventList, AnswersTooSmall, CacheSize, AfterFinish}
use Rattle.model.specs.declared.RunResult.{RunResult}
use Rattle.model.specs.Limits.{work_length, most_event_numbers}
use Rattle.model.specs.Basic.{unless, ◌or_else◌}
use Rattle.model.specs.Rows.{refuse}
use Rattle.model.specs.Task.{Task, Judged}
use Rattle.model.specs.Sheet.{Sheet}
use Rattle.model.specs.Refusal.{with_rows, rows_before, run_rows}
use Rattle.model.specs.Plain.{events_of}
use Rattle.model.specs.Services.{cleared, AfterRun, after_run, run_as}
use Rattle.theory.specs.Without.{nothing_done}

-- 16, 17 and 18, for buffers of these lengths and a task with this many functions and cache blocks
abbrev pub buffer_rows : ℕ → ℕ → ℕ → ℕ → ℕ → Option Refusal
buffer_rows events answers cache funcs stack =
    unless (eqb (events % 2) 0 && leb events most_event_numbers) (refuse EventList 0)
    or_else unless (leb (events / 2) answers) (refuse AnswersTooSmall (events / 2))
    or_else unless (eqb funcs 0 || eqb cache stack) (refuse CacheSize stack)

-- a refusal before the first event
abbrev pub none_done : Refusal → RunResult
none_done r = nothing_done (some r)

-- what run returns, where a row may refuse before the first event
abbrev pub or_none : Result RunResult Refusal → RunResult
or_none (Ok r) = r
or_none (Err q) = none_done q

-- a task that has finished before the first event, over an event list of so many numbers
abbrev pub finished_before : ℕ → RunResult
finished_before numbers = nothing_done (unless (eqb numbers 0) (refuse AfterFinish 0))

-- what a service with these rows that runs on the core that evicts so, and charges by this sheet, returns and leaves of what was judged as j: for an accepted
-- task one of the rows or of 16 to 19, or its run
abbrev pub performed : Eviction → (Task → Option Refusal) → (Task → Sheet) → Judged → (work events answers cache memory : List ℕ) → AfterRun
performed x rows sheet j work events answers cache memory =
    run_as
    x
    sheet
    (with_rows (rows_before rows (run_rows (length events) (length answers) (length cache) (length memory))) j)
    work
    (events_of events)
    answers
    cache
    memory

pub record Performs (x : Eviction) (rows : Task → Option Refusal) (sheet : Task → Sheet) (j : Judged) (w events answers cache memory : List ℕ) (r : RunResult)
    (w' answers' cache' memory' : List ℕ) : Type 0 where
  pub left : (work : List ℕ) → after_run r work answers' cache' memory' ≡ performed x rows sheet j work events answers cache memory
  pub after : cleared work_length w' ≡ cleared work_length w
