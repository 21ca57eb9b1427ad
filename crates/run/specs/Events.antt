-- A run of the task in the tables over an event list: what it is given, and what it returns and leaves.
use Rattle.std.specs.Prelude.{ℕ, ◌/◌, ◌%◌, ◌≤◌, ◌<◌, List, ◌≡◌, length}
use Rattle.model.specs.declared.Eviction.{Eviction}
use Rattle.model.specs.declared.Ending.{Ending}
use Rattle.model.specs.declared.RunResult.{RunResult}
use Rattle.model.specs.Limits.{most_event_numbers}
use Rattle.model.specs.Core.{idle}
use Rattle.model.specs.Figures.{longest}
use Rattle.model.specs.Plain.{events_of}
use Rattle.model.specs.Run.{Ran, ran, allowed}
use Rattle.model.specs.Services.{over, result_of}
use Rattle.model.specs.Sheet.{Sheet}
use Rattle.model.specs.Task.{Task}
use Rattle.theory.specs.Sound.{Sound}
use Rattle.tables.specs.declared.Header.{Header}
use Rattle.tables.specs.Tables.{task_of}
use Rattle.tables.specs.Valid.{Kept}
use Rattle.prices.specs.declared.Price.{Price}
use Rattle.readout.specs.Sheet.{sheet_in}
use Rattle.bounds.specs.Bounds.{Bounded}
use Rattle.steps.specs.Frames.{frames_end}

-- the working space has the task, a sheet that obeys the rules and the bounds of its events, the task has a function 0, and rows 16 to 19 refuse none
-- of the buffers
pub record Fitting (price : Price) (w : List ℕ) (h : Header) (events answers cache memory : List ℕ) : Type 0 where
  pub bounded : Bounded price w h
  pub sound : Sound (task_of w h) (sheet_in price w h)
  pub some : 0 < h.funcs
  pub paired : length events % 2 ≡ 0
  pub few : length events ≤ most_event_numbers
  pub answered : length events / 2 ≤ length answers
  pub blocks : length cache ≡ h.stack
  pub room : longest (task_of w h) 0 ≤ length memory

-- the run of a task with this sheet, from a fresh start on these buffers and the core that evicts so; and what the sheet allows it
abbrev pub ran_on : Eviction → Task → Sheet → List ℕ → List ℕ → List ℕ → Ran
ran_on e t sheet events cache memory = ran t sheet (idle e cache memory) (events_of events)

abbrev pub allowed_on : Task → Sheet → List ℕ → ℕ
allowed_on t sheet events = allowed t sheet (events_of events)

-- the result of a run that ended so after this many events
abbrev pub ended_with : Ending → ℕ → ℕ → ℕ → RunResult
ended_with ending done moved allowed = record { ending = ending; done = done; moved = moved; allowed = allowed }

-- r, answers', cache' and memory' are what the run of task t with this sheet returns and leaves, and w' is w but for what a run uses
pub record Serves (e : Eviction) (t : Task) (sheet : Sheet) (events answers cache memory w : List ℕ) (r : RunResult) (answers' cache' memory' w' : List ℕ) : Type 0 where
  pub returned : r ≡ result_of (ran_on e t sheet events cache memory) (allowed_on t sheet events)
  pub answered : answers' ≡ over (ran_on e t sheet events cache memory).answers answers
  pub cached : cache' ≡ (ran_on e t sheet events cache memory).core.cache
  pub stored : memory' ≡ (ran_on e t sheet events cache memory).core.memory
  pub kept : Kept frames_end w w'

-- of the task and the sheet that w has
abbrev pub ServesIn : Eviction → Price → Header → (events answers cache memory w : List ℕ) → RunResult → (answers' cache' memory' w' : List ℕ) → Type 0
ServesIn e price h events answers cache memory w r answers' cache' memory' w' =
    Serves e (task_of w h) (sheet_in price w h) events answers cache memory w r answers' cache' memory' w'
