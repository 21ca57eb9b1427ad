-- What an event keeps: the task, the sheet, and a state that a run can be in. A loop over events cites these laws.
use Prim.Native.Nat.{ℕ, zero, suc, ◌%◌, ◌≤◌, ◌<◌}
use mathlib.Core.List.{List}
use mathlib.Core.Option.{none}
use mathlib.Core.Path.{◌≡◌, refl, ap, sym, subst, ◌∙◌}
use native.Mathlib.Omega.{arith}
use lib.ListN.{length}
use Rattle.model.specs.declared.Eviction.{Eviction}
use Rattle.model.specs.Refusal.{event_rows}
use Rattle.model.specs.Task.{Task, count}
use Rattle.model.specs.Core.{Core, idle}
use Rattle.model.specs.Figures as model
use Rattle.model.specs.Plain.{Act, after_event, main_frames}
use Rattle.model.specs.Run as run
use Rattle.model.specs.Sheet.{Sheet}
use Rattle.model.specs.Run.{running_place, turn, event_bound}
use Rattle.theory.specs.Sound.{Sound}
use Rattle.theory.proofs.Frames.{places}
use Rattle.theory.proofs.Window.{window-idle}
use Rattle.theory.proofs.Clean.{clean-idle}
use Rattle.theory.proofs.Fair.{Running, fair-event, runs-start}
use Rattle.tables.specs.declared.Header.{Header}
use Rattle.tables.specs.Tables.{task_of}
use Rattle.tables.proofs.Laws.{count-is}
use Rattle.prices.specs.declared.Price.{Price}
use Rattle.readout.specs.Sheet.{sheet_in}
use Rattle.readout.proofs.Same.{Same, task_stays, sheet-stays}
use Rattle.bounds.specs.Bounds.{bounds_end, Bounded}
use Rattle.bounds.proofs.Laws.{bounded-same}
use Rattle.machine.specs.Moves.{core_of}
use Rattle.steps.specs.declared.State.{State}
use Rattle.steps.specs.declared.Turned.{Turned}
use Rattle.steps.specs.Frames.{frames_from, turn_of}
use Rattle.steps.specs.Steps.{Stays, Added}
use Rattle.turns.specs.Turns.{Runs, model_turn, Turns, Started}

-- what an event leaves of the working space has the task, the sheet and its bounds
stays-bounds : {w w' : List ℕ} → Stays w w' → Same bounds_end w w'
stays-bounds a = record { size = a.kept.size; below = a.below }

-- ---- a state that a run can be in

-- what a loop goes on with after an event: k is the state before it, and r what it returned
pub record Goes {price : Price} {w : List ℕ} {h : Header} {x : State} {cache memory : List ℕ} (k : Runs price w h x cache memory) (a : Act) (r : Turned)
    (w' cache' memory' : List ℕ) : Type 0 where
  pub runs : Runs price w' h r.state cache' memory'
  pub frames : runs.frames ≡ after_event (task_of w h) k.frames a
  pub task : task_of w' h ≡ task_of w h
  pub sheet : sheet_in price w' h ≡ sheet_in price w h
  pub bound : Added x.allowed (event_bound (task_of w h) (sheet_in price w h) k.frames a) r.state.allowed

module _ {price : Price} {w : List ℕ} {h : Header} {x : State} {cache memory : List ℕ} (k : Runs price w h x cache memory) {a : Act} {r : Turned}
    {w' cache' memory' : List ℕ} (u : Turns price w h x cache memory a r w' cache' memory') where
  abbrev t : Task
  t = task_of w h

  abbrev sheet : Sheet
  sheet = sheet_in price w h

  -- the turn that the event does, on the frames of the plain stack
  plain-turn : model_turn price w h x cache memory a
      ≡ turn t sheet (record { frames = places k.frames; core = core_of x.machine cache memory }) a
  plain-turn = ap (λ (y : run.State). turn t sheet y a) (λ i. record { frames = k.same i; core = core_of x.machine cache memory })

  turn-plain : turn_of w' r (model_turn price w h x cache memory a).out (model_turn price w h x cache memory a).back cache' memory'
      ≡ turn t sheet (record { frames = places k.frames; core = core_of x.machine cache memory }) a
  turn-plain = u.turn ∙ plain-turn

  -- after an event that no row refuses a run can go on
  pub goes_on_lem : Goes k a r w' cache' memory'
  goes_on_lem =
      let m = k.bounded.readable.settled.formed in
      let o = core_of x.machine cache memory in
      let f = fair-event t sheet m k.sound k.frames o a k.running.standing k.running in
      let e = task_stays (omega arith) k.bounded.readable.settled.holds (stays-bounds u.stays) in
      let fs = after_event t k.frames a in
      let c = core_of r.state.machine cache' memory' in
      let here = subst (Running t sheet k.sound.ground fs) (sym (ap (λ (z : run.Turn). z.state.core) turn-plain)) f.runs in
      let d = sheet-stays price h (omega arith) (stays-bounds u.stays) in
      let there = subst (λ (z : Task). (i : Sound z (sheet_in price w' h)) × Running z (sheet_in price w' h) i.ground fs c) (sym e)
      (subst (λ (z : Sheet). (i : Sound t z) × Running t z i.ground fs c) (sym d) (k.sound, here)) in
      record {
        runs = record {
          bounded = bounded-same (omega arith) k.bounded (stays-bounds u.stays);
          frames = fs;
          same = ap (λ (z : run.Turn). z.state.frames) turn-plain ∙ f.frames;
          sound = there.0;
          on = u.on;
          running = there.1;
        };
        frames = refl;
        task = e;
        sheet = d;
        bound = u.bound k.frames k.same;
      }

-- ---- the first state

-- a loop begins with a state in which function 0 has just been entered
pub record FirstState (price : Price) (w : List ℕ) (h : Header) (x : State) (cache memory : List ℕ) : Type 0 where
  pub runs : Runs price w h x cache memory
  pub frames : runs.frames ≡ main_frames (task_of w h)

pub begins : {price : Price} {w : List ℕ} {h : Header} {x : State} (e : Eviction) (cache memory : List ℕ) → Bounded price w h
    → Sound (task_of w h) (sheet_in price w h) → 0 < h.funcs → Started e w h (length memory) x → length cache ≡ h.stack
    → model.longest (task_of w h) 0 ≤ length memory → FirstState price w h x cache memory
unfolding places
begins {price} {w} {h} {x} y cache memory k d n a i j =
    let t = task_of w h in
    let some-func : 0 < count t = omega (arith, n, count-is w h) in
    let sheet = sheet_in price w h in
    let f = k.readable.settled.formed in
    let e = a.state cache memory i refl in
    let r = runs-start t sheet f d some-func (idle y cache memory) (window-idle t sheet y cache memory i j) (clean-idle y cache memory) in
    record {
      runs = record {
        bounded = k;
        frames = main_frames t;
        same = ap (λ (z : run.State). z.frames) e;
        sound = d;
        on = record {
          some = omega (arith, f.shaped.stack_low some-func);
          few = omega (arith, f.shaped.stack_high);
          top = a.top ∙ ap (λ (n : ℕ). x.machine.st % n) (sym i);
        };
        running = subst (λ (z : Core). Running t sheet d.ground (main_frames t) z) (sym (ap (λ (z : run.State). z.core) e)) r;
      };
      frames = refl;
    }

-- ---- an event that no row refuses has a frame that runs

pub accepted-runs : (t : Task) (w : List ℕ) (d f p i k v : ℕ) → event_rows i k v (running_place t (frames_from w d f p)) ≡ none → 0 < d
unfolding event_rows
accepted-runs t w zero f p i k v e = let z : ◌≡◌ {A = ℕ} 0 1 = cc in absurd (omega arith)
accepted-runs t w (suc d) f p i k v e = omega arith
