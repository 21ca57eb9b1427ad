-- The two cores compared: event for event, over every event list and for every input of the service they leave ST, the occupancy, LP, the
-- frames, the cache and the memory equal, and the one with a lazy pointer moves no more.
use Prim.Native.Nat.{ℕ, zero, suc, ◌+◌, ◌-◌, ◌%◌, ◌≤◌, ◌<◌}
use mathlib.Core.List.{List, [], ◌∷◌}
use mathlib.Core.Option.{Option, none, some}
use mathlib.Core.Path.{◌≡◌, refl, ap, sym, ◌∙◌}
use native.Mathlib.Decide.{ℕ_discrete}
use native.Mathlib.Omega.{arith}
use lib.ListN.{length, get_or, set}
use lib.Seq.{set-get_or}
use Rattle.model.specs.declared.Eviction.TheVariants.{Eager, Lazy}
use Rattle.model.specs.declared.Point.{Point}
use Rattle.model.specs.declared.Point.TheVariants.{Load, Store, Call, Ensure, Goto, Either, Return}
use Rattle.model.specs.declared.Refusal.{Refusal}
use Rattle.model.specs.Task.{Task, count, func, point, Judged, refused, task}
use Rattle.model.specs.Core.{Core, Clean, written, effective, spilled, reserve_moves, saved_from, save_moves, reserve, free, ensure, store, load, save, with_cache, resume, preempt, filled_with, idle}
use Rattle.model.specs.Limits.{work_length}
use Rattle.model.specs.Figures.{longest}
use Rattle.model.specs.Sheet.{Sheet, move_price, priced_sheet}
use Rattle.model.specs.Refusal.{priced_rows, no_rows, event_rows}
use Rattle.model.specs.Plain.{Event, events_of, Act, takes, preempted, act, Frame, running, after_event, main_frames}
use Rattle.model.specs.Run.{Turn, Ran, main_state, finished_state, step_turn, turn, or_ran, ran_from, ran}
use Rattle.model.specs.Services.{cleared, run_judged, over, run_as, run_with, run_of}
use Rattle.model.specs.WellFormed.{WellFormed}
use Rattle.theory.specs.Sound.{Sound, SoundWhere}
use Rattle.theory.specs.Cores.{eagerly, Less, LessRun, LessAfter}
use Rattle.theory.proofs.Blocks.{spilled-out}
use Rattle.theory.proofs.Clean.{effective-between, clean-idle}
use Rattle.theory.proofs.Frames.{places, running-same, In, Below, Standing, Window}
use Rattle.theory.proofs.Window.{room-below, room-start, window-idle}
use Rattle.theory.proofs.Fair.{Running, fair-event, runs-start, state-is, finished-ran, by-start}
use Rattle.theory.proofs.Lawful.{priced-sound}
use Rattle.theory.proofs.Prices.{price-moves}
use Rattle.theory.proofs.Faithful.{run-accepted}

-- to write a clean block changes nothing
spilled-clean : (cache memory : List ℕ) (a j k : ℕ) → j ≤ k
    → ((x : ℕ) → a + j ≤ x → x < a + k → get_or cache (x % length cache) 0 ≡ get_or memory x 0) → spilled cache memory a k ≡ spilled cache memory a j
unfolding spilled
spilled-clean cache memory a j zero h e = let z : 0 ≡ j = omega arith in ap (spilled cache memory a) z
spilled-clean cache memory a j (suc k) h e =
    elim (ℕ_discrete (suc k) j) [
      | yes z ↦ ap (spilled cache memory a) z
      | no z ↦
          ap (set (spilled cache memory a k) (a + k)) (e (a + k) (omega arith) (omega arith) ∙ sym (spilled-out cache memory a k (a + k) (λ g. omega arith)))
          ∙ set-get_or (spilled cache memory a k) (a + k) 0
          ∙ spilled-clean cache memory a j k (omega arith) (λ x l m. e x l (omega arith))
    ]

module _ (c : Core) (i : Clean c) where
  reserve-same : (k : ℕ) → k ≤ c.st → (reserve k (eagerly c)).core ≡ eagerly (reserve k c).core
  unfolding reserve written
  reserve-same k h = let b = effective-between c i in λ r. record {
    st = c.st - k;
    occupancy = (reserve k c).core.occupancy;
    pointer = (reserve k c).core.pointer;
    eviction = Eager;
    cache = c.cache;
    memory = spilled-clean c.cache c.memory (c.st - k + length c.cache) (reserve_moves (length c.cache) k (effective c))
        (reserve_moves (length c.cache) k c.occupancy) (omega (arith, b)) (λ x l m. i.equal x (omega (arith, b)) (omega arith)) r;
  }

  save-same : (d : ℕ) → (save d (eagerly c)).core ≡ eagerly (save d c).core
  unfolding save written
  save-same d = let b = effective-between c i in λ r. record {
    st = c.st;
    occupancy = c.occupancy;
    pointer = c.pointer;
    eviction = Eager;
    cache = c.cache;
    memory = spilled-clean c.cache c.memory (c.st + saved_from d c.occupancy) (save_moves d c.occupancy (effective c))
        (save_moves d c.occupancy c.occupancy) (omega (arith, b)) (λ x l m. i.equal x (omega (arith, b)) (omega arith)) r;
  }

  preempt-same : (d n : ℕ) (cache : List ℕ) → preempt d n cache (eagerly c) ≡ eagerly (preempt d n cache c)
  unfolding resume
  preempt-same d n cache = ap (λ c. (resume d n (with_cache cache c)).core) (save-same d)

module _ (t : Task) (s : Sheet) (w : WellFormed t) (r : Sound t s) where
  less-or : (o : Option Refusal) (c : Core) (u v : Turn) (a b : Ran) → v.answer ≡ u.answer → u.out ≤ v.out → v.back ≡ u.back → LessRun a b
      → LessRun (or_ran s.price o c u a) (or_ran s.price o (eagerly c) v b)
  less-or none c u v a b e h k l = record {
    ending = l.ending;
    done = ap suc l.done;
    answers = λ i. e i ∷ l.answers i;
    core = l.core;
    moved = omega (arith, l.moved, r.price.more u.out v.out h, ap s.price k);
  }
  less-or (some z) c u v a b e h k l = record { ending = refl; done = refl; answers = refl; core = refl; moved = omega arith }

  -- a step, by the point at which the running frame stands
  less-step : (x : Frame) (fs : List Frame) (c : Core) (y : Point) (v : ℕ) → point (func t x.fn) x.at ≡ y → In t x → Below t x.fn fs
      → Window t s (x ∷ fs) c → Clean c
      → Less (step_turn t x.fn x.at (places fs) c y v) (step_turn t x.fn x.at (places fs) (eagerly c) y v)
  unfolding reserve free ensure store load written
  less-step x fs c (Load o) v e i b u k = record { frames = refl; core = refl; answer = refl; out = omega arith; back = refl }
  less-step x fs c (Store o) v e i b u k = record { frames = refl; core = refl; answer = refl; out = omega arith; back = refl }
  less-step x fs c (Call g) v e i b u k =
      record {
        frames = refl;
        core = reserve-same c k (func t g).frame (room-below t s w r x fs c g i b e u);
        answer = refl;
        out = omega (arith, effective-between c k);
        back = refl;
      }
  less-step x fs c (Ensure n) v e i b u k = record { frames = refl; core = refl; answer = refl; out = omega arith; back = refl }
  less-step x fs c (Goto q) v e i b u k = record { frames = refl; core = refl; answer = refl; out = omega arith; back = refl }
  less-step x fs c (Either q p) v e i b u k = record { frames = refl; core = refl; answer = refl; out = omega arith; back = refl }
  less-step x fs c Return v e i b u k = record { frames = refl; core = refl; answer = refl; out = omega arith; back = refl }

  -- an event that is not refused
  pub less-turn : (fs : List Frame) (c : Core) (a : Act) → Standing t fs → Window t s fs c → Clean c
      → Less (turn t s (record { frames = places fs; core = c }) a) (turn t s (record { frames = places fs; core = eagerly c }) a)
  unfolding turn places written
  less-turn [] c a j u k = record { frames = refl; core = refl; answer = refl; out = omega arith; back = refl }
  less-turn (x ∷ fs) c (takes v) (Standing.runs i b) u k = less-step x fs c (point (func t x.fn) x.at) v refl i b u k
  less-turn (x ∷ fs) c (preempted v) j u k =
      record {
        frames = refl;
        core = preempt-same c k _ _ (filled_with v c);
        answer = refl;
        out = omega (arith, effective-between c k);
        back = refl;
      }

  less-from : (i : ℕ) (es : List Event) (fs : List Frame) (c : Core) → Running t s r.ground fs c
      → LessRun (ran_from t s i (record { frames = places fs; core = c }) es) (ran_from t s i (record { frames = places fs; core = eagerly c }) es)
  unfolding ran_from
  less-from i [] fs c k = record { ending = refl; done = refl; answers = refl; core = refl; moved = omega arith }
  less-from i (e ∷ es) fs c k =
      let l = less-turn fs c (act e) k.standing k.window k.clean in
      let f = fair-event t s w r fs c (act e) k.standing k in
      let u = turn t s (record { frames = places fs; core = c }) (act e) in
      let v = turn t s (record { frames = places fs; core = eagerly c }) (act e) in
      let z : v.state ≡ record { frames = places (after_event t fs (act e)); core = eagerly u.state.core } =
      λ j. record { frames = (l.frames ∙ f.frames) j; core = l.core j } in
      rw (running-same t fs, state-is u.state (after_event t fs (act e)) f.frames, z)
      (less-or (event_rows i e.kind e.value (running t fs)) c _ _ _ _ l.answer l.out l.back
      (less-from (suc i) es (after_event t fs (act e)) u.state.core f.runs))

  -- from function 0 on
  less-main : 0 < count t → (c : Core) (es : List Event) → Window t s [] c → Clean c
      → LessRun (ran_from t s 0 (main_state t c) es) (ran_from t s 0 (main_state t (eagerly c)) es)
  unfolding places
  less-main h c es u k =
      rw (reserve-same c k (func t 0).frame (room-start t s w r h c u))
      (less-from 0 es (main_frames t) (reserve (func t 0).frame c).core (runs-start t s w r h c u k))

  -- a task that has finished moves nothing on either
  less-finished : (c : Core) (es : List Event)
      → LessRun (ran_from t s 0 (finished_state c) es) (ran_from t s 0 (finished_state (eagerly c)) es)
  less-finished c es =
      rw (finished-ran t s c es, finished-ran t s (eagerly c) es)
      (record { ending = refl; done = refl; answers = refl; core = refl; moved = omega arith })

  -- from a fresh start on any core with no frames: written back eagerly it leaves the same, and moves no less
  pub less-moved : (c : Core) (es : List Event) → (0 < count t → Window t s [] c) → Clean c → LessRun (ran t s c es) (ran t s (eagerly c) es)
  less-moved c es u k =
      by-start t (λ x fs. LessRun (ran_from t s 0 (x c) es) (ran_from t s 0 (x (eagerly c)) es)) (less-finished c es) (λ h. less-main h c es (u h) k)

  -- the two cores of a run
  pub lazy-less : (cache memory : List ℕ) (es : List Event) → (0 < count t → length cache ≡ t.stack) → longest t 0 ≤ length memory
      → LessRun (ran t s (idle Lazy cache memory) es) (ran t s (idle Eager cache memory) es)
  lazy-less cache memory es j k =
      less-moved (idle Lazy cache memory) es (λ h. window-idle t s Lazy cache memory (j h) k) (clean-idle Lazy cache memory)

-- the two services: for every first rows, where the sheet of each task that the rows pass obeys the rules
pub lazy-less-with : (sheet : Task → Sheet) (first : Option Refusal) (rows : Task → Option Refusal) → SoundWhere rows sheet
    → (text work events answers cache memory : List ℕ)
    → LessAfter (run_with Lazy sheet first rows text work events answers cache memory) (run_with Eager sheet first rows text work events answers cache memory)
unfolding run_with
lazy-less-with sheet first rows lawful text work events answers cache memory = go (run_judged first rows text events answers cache memory) refl
  where
    go : (j : Judged) → run_judged first rows text events answers cache memory ≡ j
        → LessAfter (run_as Lazy sheet (run_judged first rows text events answers cache memory) (cleared work_length work) (events_of events) answers cache memory)
        (run_as Eager sheet (run_judged first rows text events answers cache memory) (cleared work_length work) (events_of events) answers cache memory)
    go (refused r) e = rw e (record {
      ending = refl;
      done = refl;
      allowed = refl;
      work = refl;
      answers = refl;
      cache = refl;
      memory = refl;
      moved = omega arith;
    })
    go (task t) e =
        let a = run-accepted first rows text events answers cache memory t e in
        let w = a.formed in
        let l = lazy-less t (sheet t) w (lawful t w a.no-rows) cache memory (events_of events) a.blocks a.room in
        rw e (record {
          ending = l.ending;
          done = l.done;
          allowed = refl;
          work = refl;
          answers = ap (λ n. over n answers) l.answers;
          cache = λ i. (l.core i).cache;
          memory = λ i. (l.core i).memory;
          moved = l.moved;
        })

-- run and run_lazy, for every text, start, each, event list and buffers: they agree in ending, done, allowed, answers, cache, memory and working
-- space, and run_lazy moves no more
pub services-less : (text : List ℕ) (start each : ℕ) (work events answers cache memory : List ℕ)
    → LessAfter (run_of Lazy text start each work events answers cache memory) (run_of Eager text start each work events answers cache memory)
services-less text start each work events answers cache memory =
    lazy-less-with (priced_sheet (move_price start each)) (priced_rows work_length (length work) start each) no_rows
    (priced-sound (move_price start each) (price-moves start each)) text work events answers cache memory
