-- Demand 3, on either core: over every event list from a fresh start, whatever cache and memory hold, a run ends, counts its events and
-- answers as the plain stack does, moves at most what the sheet allows, and leaves the blocks from LP up to MT equal to memory. So C is given a number
-- moved that is at most the number allowed.
use Prim.Native.Nat.{ℕ, ◌/◌, ◌%◌, ◌≤◌, ◌<◌}
use mathlib.Core.Bool.{◌&&◌, ◌||◌}
use mathlib.Core.List.{List, []}
use mathlib.Core.Option.{Option, none}
use mathlib.Core.Path.{◌≡◌, refl, ap}
use native.Mathlib.Omega.{arith}
use lib.Dec.{eqb, leb, ltb, leb→le, ltb→lt, nltb→le}
use lib.ListN.{length, length-drop}
use Rattle.model.specs.declared.Eviction.{Eviction}
use Rattle.model.specs.declared.Refusal.{Refusal}
use Rattle.model.specs.declared.RunResult.{RunResult}
use Rattle.model.specs.declared.Row.TheVariants.{EventList, AnswersTooSmall, CacheSize, MemoryTooSmall}
use Rattle.model.specs.Limits.{work_length, most_event_numbers}
use Rattle.model.specs.Rows.{refuse}
use Rattle.model.specs.Basic.{unless}
use Rattle.model.specs.Task.{Task, count, stackless, Judged, refused, task}
use Rattle.model.specs.Core.{Core, Clean, idle}
use Rattle.model.specs.Figures.{longest}
use Rattle.model.specs.Sheet.{Sheet, move_price, priced_sheet}
use Rattle.model.specs.Refusal.{priced_rows, no_rows, rows_before, run_rows}
use Rattle.model.specs.WellFormed.{WellFormed}
use Rattle.model.specs.Plain.{Event, events_of}
use Rattle.model.specs.Run.{Faithful}
use Rattle.model.specs.Services.{cleared, over, run_judged, run_as, run_with, run_of, run_judged_of, Demand3, LeavesClean}
use Rattle.model.specs.Services.{Called, exported, run_result_numbers, RunBuffers, run_buffers, run_left, run_numbers}
use Rattle.theory.specs.Sound.{Sound, SoundWhere}
use Rattle.theory.specs.Exported.{result_length, RunAnswered}
use Rattle.theory.proofs.Lists.{by-test, or-equal}
use Rattle.theory.proofs.Firsts.{or_else-none, row-none, unless-none}
use Rattle.theory.proofs.Accepted.{accepted}
use Rattle.theory.proofs.Frames.{Window}
use Rattle.theory.proofs.Window.{window-idle}
use Rattle.theory.proofs.Clean.{clean-idle}
use Rattle.theory.proofs.Fair.{fair-run}
use Rattle.theory.proofs.Lawful.{priced-sound}
use Rattle.theory.proofs.Prices.{price-moves}

-- of every sheet that obeys the rules, from every clean core that has no frames; a task without a stack asks for no window
pub faithful : (t : Task) (s : Sheet) → WellFormed t → Sound t s → (c : Core) (es : List Event) → (0 < count t → Window t s [] c) → Clean c
    → Faithful t s c es
faithful t s w r c es u k =
    let f = fair-run t s w r c es u k in
    record { ending = f.ending; done = f.done; answers = f.answers; bounded = omega (arith, f.bounded); clean = f.clean }

-- rows 18 and 19 give the cache its size, where there is a stack, and the memory its room
run_room : (events answers cache memory : ℕ) (t : Task) → run_rows events answers cache memory t ≡ none
    → (0 < count t → cache ≡ t.stack) × (longest t 0 ≤ memory)
unfolding run_rows
run_room events answers cache memory t e =
    let fits = stackless t || eqb cache t.stack in
    let i = (row-none (eqb (events % 2) 0 && leb events most_event_numbers) (refuse EventList 0) _).0 e in
    let j = (row-none (leb (events / 2) answers) (refuse AnswersTooSmall (events / 2)) _).0 i.1 in
    let k = (row-none fits (refuse CacheSize t.stack) (unless (leb (longest t 0) memory) (refuse MemoryTooSmall (longest t 0)))).0 j.1 in
    let l = (unless-none (leb (longest t 0) memory) (refuse MemoryTooSmall (longest t 0))).0 k.1 in
    (or-equal (count t) cache t.stack k.0, leb→le (longest t 0) memory l)

-- what run gives by accepting a text with these buffers and these rows of its own
pub record RunAccepted (rows : Task → Option Refusal) (t : Task) (cache memory : List ℕ) : Type 0 where
  pub formed : WellFormed t
  pub no-rows : rows t ≡ none
  pub blocks : 0 < count t → length cache ≡ t.stack
  pub room : longest t 0 ≤ length memory

pub run-accepted : (first : Option Refusal) (rows : Task → Option Refusal) (text events answers cache memory : List ℕ) (t : Task)
    → run_judged first rows text events answers cache memory ≡ task t → RunAccepted rows t cache memory
unfolding run_judged
run-accepted first rows text events answers cache memory t e =
    let own = run_rows (length events) (length answers) (length cache) (length memory) in
    let a = accepted first (rows_before rows own) text t e in
    let o = (or_else-none (rows t) (own t)).0 a.no_own in
    let r = run_room (length events) (length answers) (length cache) (length memory) t o.1 in
    record { formed = a.task.formed; no-rows = o.0; blocks = r.0; room = r.1 }

-- of every text that run accepts with these buffers, on either core, for every first rows, where the sheet of each task that the rows pass obeys the rules
module _ (x : Eviction) (sheet : Task → Sheet) (first : Option Refusal) (rows : Task → Option Refusal) (lawful : SoundWhere rows sheet) where
  pub run-faithful : (text events answers cache memory : List ℕ) (t : Task) → run_judged first rows text events answers cache memory ≡ task t
      → (es : List Event) → Faithful t (sheet t) (idle x cache memory) es
  run-faithful text events answers cache memory t e es =
      let a = run-accepted first rows text events answers cache memory t e in
      let w = a.formed in
      let s = sheet t in
      faithful t s w (lawful t w a.no-rows) (idle x cache memory) es (λ h. window-idle t s x cache memory (a.blocks h) a.room)
      (clean-idle x cache memory)

  pub demand-3-with : (text work events answers cache memory : List ℕ)
      → Demand3 (run_judged first rows text events answers cache memory) events answers (run_with x sheet first rows text work events answers cache memory)
  unfolding run_with
  demand-3-with text work events answers cache memory = go (run_judged first rows text events answers cache memory) refl
    where
      go : (j : Judged) → run_judged first rows text events answers cache memory ≡ j
          → Demand3 (run_judged first rows text events answers cache memory) events answers
          (run_as x sheet (run_judged first rows text events answers cache memory) (cleared work_length work) (events_of events) answers cache memory)
      go (refused r) e =
          record { ending = rw e refl; done = rw e refl; answered = unfold over in rw e refl; bounded = rw e (omega arith) }
      go (task t) e =
          let f = run-faithful text events answers cache memory t e (events_of events) in record {
            ending = rw e f.ending;
            done = rw e f.done;
            answered = rw e (ap (λ l. over l answers) f.answers);
            bounded = rw e f.bounded;
          }

  pub leaves-clean-with : (text work events answers cache memory : List ℕ)
      → LeavesClean x sheet (run_judged first rows text events answers cache memory) events cache memory
      (run_with x sheet first rows text work events answers cache memory)
  unfolding run_with
  leaves-clean-with text work events answers cache memory = go (run_judged first rows text events answers cache memory) refl
    where
      go : (j : Judged) → run_judged first rows text events answers cache memory ≡ j
          → LeavesClean x sheet (run_judged first rows text events answers cache memory) events cache memory
          (run_as x sheet (run_judged first rows text events answers cache memory) (cleared work_length work) (events_of events) answers cache memory)
      go (refused r) e = rw e (clean-idle x cache memory)
      go (task t) e = rw e (run-faithful text events answers cache memory t e (events_of events)).clean

-- what C is given of a result that moves at most what is allowed: nothing where the buffer is short, and else its numbers
short-answered : (result : List ℕ) → length result < result_length → RunAnswered 0 result result
short-answered result h = record { answered = (λ e. omega arith, λ e. omega arith); short = λ e. (refl, refl); kept = refl; bounded = λ e. omega arith }

run-answered : (r : RunResult) (result : List ℕ) → r.moved ≤ r.allowed → result_length ≤ length result
    → RunAnswered 1 result (over (run_result_numbers r) result)
unfolding over
run-answered r result h k = record {
  answered = (λ e. omega arith, λ e. refl);
  short = λ e. absurd (omega arith);
  kept = omega (arith, length-drop (length (run_result_numbers r)) result);
  bounded = λ e. omega arith;
}

exported-run : (r : RunResult) (left lent : RunBuffers) (result : List ℕ) → r.moved ≤ r.allowed
    → let c = exported (run_result_numbers r) left lent result in RunAnswered c.answer result c.result
unfolding exported
exported-run r left lent result h =
    by-test (λ (c : Called RunBuffers). RunAnswered c.answer result c.result) (ltb (length result) (length (run_result_numbers r)))
    (λ k. short-answered result (ltb→lt (length result) result_length k)) (λ k. run-answered r result h (nltb→le (length result) result_length k))

-- of the services themselves, run and run_lazy, for every text, start, each, event list and buffers
module _ (x : Eviction) (text : List ℕ) (start each : ℕ) (work events answers cache memory : List ℕ) where
  pub demand-3 : Demand3 (run_judged_of text start each work events answers cache memory) events answers
      (run_of x text start each work events answers cache memory)
  demand-3 =
      demand-3-with x (priced_sheet (move_price start each)) (priced_rows work_length (length work) start each) no_rows
      (priced-sound (move_price start each) (price-moves start each)) text work events answers cache memory

  pub leaves-clean : LeavesClean x (priced_sheet (move_price start each)) (run_judged_of text start each work events answers cache memory) events cache memory
      (run_of x text start each work events answers cache memory)
  leaves-clean =
      leaves-clean-with x (priced_sheet (move_price start each)) (priced_rows work_length (length work) start each) no_rows
      (priced-sound (move_price start each) (price-moves start each)) text work events answers cache memory

  -- run as C calls it; c is what it has returned and left
  pub numbers-hold : (result : List ℕ) (c : Called RunBuffers) → c ≡ run_numbers x text start each work events answers cache memory result
      → RunAnswered c.answer result c.result
  numbers-hold result c e =
      let after = run_of x text start each work events answers cache memory in
      rw e (exported-run after.result (run_left after) (run_buffers work answers cache memory) result demand-3.bounded)

  pub demand-3-numbers : (result : List ℕ)
      → let c = run_numbers x text start each work events answers cache memory result in RunAnswered c.answer result c.result
  demand-3-numbers result = numbers-hold result _ refl
