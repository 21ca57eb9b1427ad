-- The rows of run by their tests, and what run returns and leaves.
use Prim.Native.Nat.{ℕ, ◌/◌, ◌%◌, ◌≤◌, ◌<◌}
use mathlib.Core.Bool.{◌&&◌, ◌||◌}
use mathlib.Core.List.{List, [], ◌∷◌}
use mathlib.Core.Option.{Option, none, some}
use mathlib.Core.Path.{◌≡◌, refl, ap, sym, subst, ◌∙◌}
use native.Mathlib.Omega.{arith}
use lib.Dec.{eqb, leb, eqb→eq, leb→le, leb-zero}
use lib.ListN.{length}
use borrow.Author.Tests.{ne_eqb, lt-leb, le-leb}
use Rattle.model.specs.declared.Eviction.{Eviction}
use Rattle.model.specs.declared.Row.TheVariants.{EventList, AnswersTooSmall, CacheSize, MemoryTooSmall}
use Rattle.model.specs.declared.Refusal.{Refusal}
use Rattle.std.proofs.Common.{Result, Ok, Err}
use Rattle.model.specs.declared.RunResult.{RunResult}
use Rattle.model.specs.Limits.{work_length, most_event_numbers}
use Rattle.model.specs.Basic.{unless, ◌or_else◌}
use Rattle.model.specs.Rows.{refuse, row_verdict}
use Rattle.model.specs.Task.{Task, count, Judged, task}
use Rattle.model.specs.Core.{idle}
use Rattle.model.specs.Figures.{longest}
use Rattle.model.specs.Sheet.{Sheet, move_price, priced_sheet, sheet_of}
use Rattle.model.specs.Refusal.{with_rows, rows_before, run_rows}
use Rattle.model.specs.Plain.{events_of}
use Rattle.model.specs.Run.{Ran}
use Rattle.model.specs.Services.{cleared, over, result_of, AfterRun, after_run, run_as, run_judged, run_with, run_of, run_judged_of, Demand3, LeavesClean, PaysOnce}
use Rattle.model.specs.WellFormed.{WellFormed}
use Rattle.theory.specs.Agree.{Agree}
use Rattle.theory.specs.Without.{first_row, untouched}
use Rattle.theory.proofs.Lists.{and-holds, or-equal}
use Rattle.theory.proofs.Firsts.{row-none, unless-none}
use Rattle.theory.proofs.Search.{verdict-none, verdict-some}
use Rattle.theory.proofs.Lawful.{sound}
use Rattle.theory.proofs.Prices.{price-moves}
use Rattle.theory.proofs.Agree.{run_agree, allowed-agree, sound-agree}
use Rattle.theory.proofs.Faithful.{demand-3, leaves-clean}
use Rattle.theory.proofs.Once.{services-once}
use Rattle.theory.proofs.Without.{longest-none, finished-run}
use Rattle.tables.specs.declared.Header.{Header}
use Rattle.tables.specs.Tables.{task_of}
use Rattle.prices.specs.declared.Price.{Price}
use Rattle.prices.specs.Prices.{price_of}
use Rattle.readout.specs.declared.FuncFigures.{FuncFigures}
use Rattle.readout.specs.Sheet.{sheet_in}
use Rattle.readout.specs.Readable.{func_figures}
use Rattle.figures.specs.Figured.{Figured}
use Rattle.bounds.specs.Bounds.{Bounded, OnlyBounds}
use Rattle.bounds.proofs.Laws.{only-task, only-sheet}
use Rattle.run.specs.Events.{Fitting, Serves, ServesIn}
use Rattle.judge.specs.Judgement.{judged_in}
use Rattle.serving.specs.Served.{Lent}
use Rattle.running.specs.Performs.{buffer_rows, none_done, finished_before, Performs}
use Rattle.serving.proofs.Laws.{own-rows}

-- ---- 16, 17 and 18

-- buffers that they do not refuse
record Pass (e a c n s : ℕ) : Type 0 where
  paired : e % 2 ≡ 0
  few : e ≤ most_event_numbers
  answered : e / 2 ≤ a
  blocks : 0 < n → c ≡ s

passes : (e a c n s : ℕ) → buffer_rows e a c n s ≡ none → Pass e a c n s
passes e a c n s o =
    let i = (row-none (eqb (e % 2) 0 && leb e most_event_numbers) (refuse EventList 0) _).0 o in
    let j = (row-none (leb (e / 2) a) (refuse AnswersTooSmall (e / 2)) _).0 i.1 in
    let k = (unless-none (eqb n 0 || eqb c s) (refuse CacheSize s)).0 j.1 in
    let l = (and-holds (eqb (e % 2) 0) (leb e most_event_numbers)).0 i.0 in
    record {
      paired = eqb→eq (e % 2) 0 l.0;
      few = leb→le e most_event_numbers l.1;
      answered = leb→le (e / 2) a j.0;
      blocks = or-equal n c s k;
    }

-- ---- a run that has finished before the first event

-- as the model has it
finished-after : (events work answers cache memory : List ℕ) → length events % 2 ≡ 0
    → after_run (finished_before (length events)) work answers cache memory ≡ untouched (first_row (events_of events)) work answers cache memory
unfolding events_of
finished-after [] work answers cache memory p = refl
finished-after (b ∷ []) work answers cache memory p = absurd (omega arith)
finished-after (b ∷ c ∷ l) work answers cache memory p = rw (ne_eqb (length (b ∷ c ∷ l)) 0 (λ z. omega arith)) refl

-- ---- 16 to 19

or_later : (a b c d : Option Refusal) → (a or_else b or_else c or_else d) ≡ ((a or_else b or_else c) or_else d)
or_later none none c d = refl
or_later none (some r) c d = refl
or_later (some r) b c d = refl

-- 19 comes after the others
rows_split : (e a c m : ℕ) (t : Task)
    → run_rows e a c m t ≡ (buffer_rows e a c (count t) t.stack or_else unless (leb (longest t 0) m) (refuse MemoryTooSmall (longest t 0)))
unfolding run_rows
rows_split e a c m t =
    or_later (unless (eqb (e % 2) 0 && leb e most_event_numbers) (refuse EventList 0)) (unless (leb (e / 2) a) (refuse AnswersTooSmall (e / 2))) _ _

-- what they find, for a task of n functions
rows-found : (e a c m n : ℕ) (t : Task) → count t ≡ n → (o : Option Refusal) → buffer_rows e a c n t.stack ≡ o
    → run_rows e a c m t ≡ (o or_else unless (leb (longest t 0) m) (refuse MemoryTooSmall (longest t 0)))
rows-found e a c m n t k o h =
    rows_split e a c m t
    ∙ ap (λ (z : Option Refusal). z or_else unless (leb (longest t 0) m) (refuse MemoryTooSmall (longest t 0)))
    (ap (λ (z : ℕ). buffer_rows e a c z t.stack) k ∙ h)

-- D of function 0, in the task as it was lent
pub first-room : (price : Price) (w : List ℕ) (h : Header) {t : Task} {k : FuncFigures} → k ≡ func_figures price w h 0 → task_of w h ≡ t
    → k.longest ≡ longest t 0
unfolding func_figures
first-room price w h g same = ap (λ (z : FuncFigures). z.longest) g ∙ ap (λ (z : Task). longest z 0) same

-- the run of an accepted task of n functions
module _ (x : Eviction) (rows : Task → Option Refusal) (sheet : Task → Sheet) (t : Task) (passed : rows t ≡ none) {n : ℕ} (c : count t ≡ n)
    (events answers cache memory : List ℕ) where
  -- one of 16, 17 and 18 refuses it
  pub unfit : {q : Refusal} (w : List ℕ) → Err q ≡ row_verdict (buffer_rows (length events) (length answers) (length cache) n t.stack)
      → Performs x rows sheet (task t) w events answers cache memory (none_done q) w answers cache memory
  unfit {q = q} w e =
      let m = verdict-some (buffer_rows (length events) (length answers) (length cache) n t.stack) (sym e) in
      record {
        left = λ work. rw (passed, rows-found (length events) (length answers) (length cache) (length memory) n t c (some q) m) refl;
        after = refl;
      }

  -- there is no function 0
  pub all_finished : {r : RunResult} (w : List ℕ) → Ok tt ≡ row_verdict (buffer_rows (length events) (length answers) (length cache) n t.stack) → n ≡ 0
      → r ≡ finished_before (length events)
      → Performs x rows sheet (task t) w events answers cache memory r w answers cache memory
  all_finished w e z i =
      let m = verdict-none (buffer_rows (length events) (length answers) (length cache) n t.stack) (sym e) in
      let p = passes (length events) (length answers) (length cache) n t.stack m in
      record {
        left = λ work.
            rw
            (passed, rows-found (length events) (length answers) (length cache) (length memory) n t c none m, longest-none t (c ∙ z), leb-zero (length memory))
            (ap (λ (y : RunResult). after_run y work answers cache memory) i ∙ finished-after events work answers cache memory p.paired
            ∙ sym (finished-run x sheet t (c ∙ z) work (events_of events) answers cache memory));
        after = refl;
      }

  -- room: D of function 0, as it was read
  module _ (e : Ok tt ≡ row_verdict (buffer_rows (length events) (length answers) (length cache) n t.stack)) {room : ℕ} (room-is : room ≡ longest t 0) where
    rows_are : run_rows (length events) (length answers) (length cache) (length memory) t
        ≡ unless (leb (longest t 0) (length memory)) (refuse MemoryTooSmall (longest t 0))
    rows_are = rows-found (length events) (length answers) (length cache) (length memory) n t c none (verdict-none (buffer_rows (length events) (length answers) (length cache) n t.stack) (sym e))

    module _ {w w' : List ℕ} (after : cleared work_length w' ≡ cleared work_length w) where
      pub too-little : length memory < room
          → Performs x rows sheet (task t) w events answers cache memory (none_done (refuse MemoryTooSmall room)) w' answers cache memory
      too-little h =
          let l : length memory < longest t 0 = omega (arith, room-is) in
          record {
            left = λ work. rw (passed, rows_are, lt-leb (longest t 0) (length memory) l)
                (ap (λ (z : ℕ). after_run (none_done (refuse MemoryTooSmall z)) work answers cache memory) room-is);
            after = after;
          }

      -- t'': the task as its events are run
      pub all-run : {r : RunResult} {t'' : Task} {w'' answers' cache' memory' : List ℕ} → t'' ≡ t → room ≤ length memory
          → Serves x t'' (sheet t'') events answers cache memory w' r answers' cache' memory' w''
          → cleared work_length w'' ≡ cleared work_length w' → Performs x rows sheet (task t) w events answers cache memory r w'' answers' cache' memory'
      all-run i h s d =
          let l : longest t 0 ≤ length memory = omega (arith, room-is) in
          let z = rw i at s in
          record {
            left = λ work. rw (passed, rows_are, le-leb (longest t 0) (length memory) l)
                (λ i. after_run (z.returned i) work (z.answered i) (z.cached i) (z.stored i));
            after = d ∙ after;
          }

-- ---- the events are run on the sheet in the columns, which is that of the task

-- sheets that agree serve alike
serves-agree : {x : Eviction} {t : Task} {s z : Sheet} {events answers cache memory w : List ℕ} {r : RunResult} {answers' cache' memory' w' : List ℕ}
    → Agree t s z → WellFormed t → Serves x t s events answers cache memory w r answers' cache' memory' w'
    → Serves x t z events answers cache memory w r answers' cache' memory' w'
serves-agree {x} {events = events} {answers} {cache} {memory} a f d =
    let e = run_agree a f (idle x cache memory) (events_of events) in
    let l = allowed-agree a f (events_of events) in
    record {
      returned = d.returned ∙ (λ i. result_of (e i) (l i));
      answered = d.answered ∙ ap (λ (r : Ran). over r.answers answers) e;
      cached = d.cached ∙ ap (λ (r : Ran). r.core.cache) e;
      stored = d.stored ∙ ap (λ (r : Ran). r.core.memory) e;
      kept = d.kept;
    }

-- w: the working space when the room was asked for, w' with the bounds
module _ {price : Price} (w : List ℕ) {w' : List ℕ} {h : Header} (f : Figured price w h) (b : Bounded price w' h) (o : OnlyBounds w w') where
  same-task : task_of w' h ≡ task_of w h
  same-task = only-task f.readable o

  agrees : Agree (task_of w' h) (sheet_in price w' h) (priced_sheet (price_of price) (task_of w' h))
  agrees =
      subst (λ (t : Task). Agree t (sheet_in price w' h) (priced_sheet (price_of price) t)) (sym same-task)
      (subst (λ (s : Sheet). Agree (task_of w h) s (priced_sheet (price_of price) (task_of w h))) (sym (only-sheet f.readable o)) f.agree)

  -- what the run of the events asks for
  pub fits : 0 < h.funcs → (events answers cache memory : List ℕ) {k : FuncFigures}
      → Ok tt ≡ row_verdict (buffer_rows (length events) (length answers) (length cache) h.funcs h.stack)
      → k ≡ func_figures price w h 0
      → k.longest ≤ length memory → Fitting price w' h events answers cache memory
  unfolding func_figures
  fits some-func events answers cache memory e g l =
      let p = passes (length events) (length answers) (length cache) h.funcs h.stack (verdict-none (buffer_rows (length events) (length answers) (length cache) h.funcs h.stack) (sym e)) in
      let m = b.readable.settled.formed in
      record {
        bounded = b;
        sound = sound-agree agrees m (sound (task_of w' h) m (price_of price) (price-moves price.start price.each));
        some = some-func;
        paired = p.paired;
        few = p.few;
        answered = p.answered;
        blocks = p.blocks some-func;
        room = omega (arith, ap (λ (z : FuncFigures). z.longest) g, ap (λ (z : Task). longest z 0) same-task);
      }

  -- and what it gives
  pub serves-own : {x : Eviction} {events answers cache memory : List ℕ} {r : RunResult} {answers' cache' memory' w'' : List ℕ}
      → ServesIn x price h events answers cache memory w' r answers' cache' memory' w''
      → Serves x (task_of w' h) (priced_sheet (price_of price) (task_of w' h)) events answers cache memory w' r answers' cache' memory' w''
  serves-own d = serves-agree agrees b.readable.settled.formed d

-- ---- what was judged

-- the service, whose working space is l in the end
module _ {x : Eviction} {first : Option Refusal} {rows : Task → Option Refusal} {sheet : Task → Sheet}
    {text w w' w'' events answers cache memory answers' cache' memory' l : List ℕ} {j : Result Header Refusal} {r : RunResult} (a : Lent work_length first text w j w')
    (b : Performs x rows sheet (judged_in w' j) w' events answers cache memory r w'' answers' cache' memory') (c : l ≡ cleared work_length w'') where
  pub run-left : after_run r l answers' cache' memory' ≡ run_with x sheet first rows text w events answers cache memory
  unfolding run_with run_judged
  run-left =
      let own = rows_before rows (run_rows (length events) (length answers) (length cache) (length memory)) in
      ap (λ (z : List ℕ). after_run r z answers' cache' memory') (c ∙ b.after ∙ a.after) ∙ b.left (cleared work_length w)
      ∙ ap (λ (z : Judged). run_as x sheet z (cleared work_length w) (events_of events) answers cache memory)
      (sym (own-rows own first text ∙ ap (with_rows own) a.same))

-- what follows of run and run_lazy from the equation of what they return and leave, in the order of their clauses
abbrev RunHolds : Eviction → List ℕ → ℕ → ℕ → (work events answers cache memory : List ℕ) → AfterRun → Type 0
RunHolds x text start each work events answers cache memory after =
    let j = run_judged_of text start each work events answers cache memory in
    Demand3 j events answers after
    × (LeavesClean x (priced_sheet (move_price start each)) j events cache memory after
    × (start ≡ 0 → each ≡ 1 → PaysOnce sheet_of j (events_of events) after.result.moved))

pub run_holds : (x : Eviction) (text : List ℕ) (start each : ℕ) (work events answers cache memory : List ℕ) {after : AfterRun}
    → after ≡ run_of x text start each work events answers cache memory
    → (after ≡ run_of x text start each work events answers cache memory) × RunHolds x text start each work events answers cache memory after
run_holds x text start each work events answers cache memory e = (
  e,
  subst (λ (z : AfterRun). RunHolds x text start each work events answers cache memory z) (sym e) (
    demand-3 x text start each work events answers cache memory,
    (leaves-clean x text start each work events answers cache memory, services-once x text start each work events answers cache memory),
  ),
)
