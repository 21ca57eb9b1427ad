-- What is so of a task that runs, and of one that waits between the halves of a preemption. Every event of a run is fair: it goes on as the
-- plain stack does, answers as it does, and moves at most what the sheet allows and what the potential falls by. So is every list of events.
use Rattle.std.specs.Prelude.{if◌then◌else◌}
use Prim.Native.Nat.{ℕ, zero, suc, ◌+◌, ◌≤◌, ◌<◌}
use mathlib.Core.Bool.{Bool, true, false}
use mathlib.Core.List.{List, [], ◌∷◌}
use mathlib.Core.Option.{Option, none, some}
use mathlib.Core.Path.{◌≡◌, refl, ap, ◌∙◌}
use native.Mathlib.Omega.{arith}
use lib.Dec.{eqb, eqb-suc-zero}
use borrow.Author.Tests.{eq-eqb, ne_eqb}
use lib.ListN.{length, length-replicate}
use Rattle.model.specs.declared.Point.{Point}
use Rattle.model.specs.declared.Refusal.{Refusal}
use Rattle.model.specs.Task.{Task, count, func, point}
use Rattle.model.specs.Core.{Core, Clean, effective, save, reserve, with_cache, resume, filled_with}
use Rattle.model.specs.Sheet.{Sheet}
use Rattle.model.specs.Refusal.{event_rows}
use Rattle.model.specs.Plain.{Event, Act, takes, preempted, act, Frame, Plain, running, stepped, after_event, loaded_from, answer_of, or_plain}
use Rattle.model.specs.Plain.{plain_from, plain, main_frames, first_frames}
use Rattle.model.specs.Run.{State, Turn, main_state, finished_state, fresh_state, step_turn, preempt_turn, turn, Ran, or_ran, ran_from, ran, step_bound, event_bound, or_bound, allowed_from, allowed}
use Rattle.model.specs.WellFormed.{WellFormed}
use Rattle.theory.specs.Sound.{Ground, Sound}
use Rattle.theory.specs.Without.{first_row, none_ran, none_plain}
use Rattle.theory.proofs.Frames.{places, running-same, frames-step, In, Below, Standing, first-main, first-none, standing-start, standing-step, Window, Needed}
use Rattle.theory.proofs.Clean.{effective-between, clean-reserve, clean-resume}
use Rattle.theory.proofs.CleanStep.{clean_step}
use Rattle.theory.proofs.Window.{room-start, window-start, window-step, window-save, window-between, window-resume}
use Rattle.theory.proofs.Contents.{Coherent, Stored, coherent-start, coherent-step, coherent-save, coherent-resume, answer-step}
use Rattle.theory.proofs.Occupancy.{Occupied, occupied-start, occupied-step, fewer}
use Rattle.theory.proofs.Potential.{potential, paid, potential-start, step-covered, preempt-covered}

-- a task that runs, with these frames on the plain stack
pub record Running (t : Task) (s : Sheet) (b : Ground) (fs : List Frame) (c : Core) : Type 0 where
  pub standing : Standing t fs
  pub window : Window t s fs c
  pub clean : Clean c
  pub holds : Coherent t fs c
  pub occupied : Occupied t s b fs c.occupancy

-- a task that waits between the halves of a preemption: all that it will load is in its memory
pub record Aside (t : Task) (s : Sheet) (b : Ground) (fs : List Frame) (c : Core) : Type 0 where
  pub standing : Standing t fs
  pub window : Window t s fs c
  pub stored : Stored t fs c
  pub occupied : Occupied t s b fs c.occupancy

-- a turn of the run at fs and c is fair, the plain stack going on with fs' and answering a, and the sheet allowing m
pub record Fair (t : Task) (s : Sheet) (b : Ground) (fs : List Frame) (c : Core) (fs' : List Frame) (u : Turn) (m a : ℕ) : Type 0 where
  pub frames : u.state.frames ≡ places fs'
  pub runs : Running t s b fs' u.state.core
  pub answers : u.answer ≡ a
  pub pays : paid s u + potential t s b fs' u.state.core.occupancy ≤ m + potential t s b fs c.occupancy

-- a run is fair, with n delayed at its start
pub record FairRun (r : Ran) (p : Plain) (allowed n : ℕ) : Type 0 where
  pub ending : r.ending ≡ p.ending
  pub done : r.done ≡ p.done
  pub answers : r.answers ≡ p.answers
  pub bounded : r.moved ≤ allowed + n
  pub clean : Clean r.core

-- a refusal ends both; else a fair turn and the rest decide
fair-or : (s : Sheet) (o : Option Refusal) (c : Core) (u : Turn) (r : Ran) (p : Plain) (m a allowed n n' : ℕ) → Clean c → u.answer ≡ a
    → paid s u + n' ≤ m + n → FairRun r p allowed n' → FairRun (or_ran s.price o c u r) (or_plain o a p) (or_bound o m allowed) n
fair-or s none c u r p m a allowed n n' k e h f = record {
  ending = f.ending;
  done = ap suc f.done;
  answers = λ i. e i ∷ f.answers i;
  bounded = omega (arith, h, f.bounded);
  clean = f.clean;
}
fair-or s (some x) c u r p m a allowed n n' k e h f =
    record { ending = refl; done = refl; answers = refl; bounded = omega arith; clean = k }

-- a state is its frames and its core
pub state-is : (x : State) (fs : List Frame) → x.frames ≡ places fs → x ≡ record { frames = places fs; core = x.core }
state-is x fs e = λ j. record { frames = e j; core = x.core }

module _ (t : Task) (s : Sheet) (w : WellFormed t) (r : Sound t s) where
  -- the halves of a preemption, and any cache between them
  pub runs-save : (x : Frame) (fs : List Frame) (c : Core) → In t x → Running t s r.ground (x ∷ fs) c
      → Aside t s r.ground (x ∷ fs) (save (s.at x.fn x.at).dead c).core
  runs-save x fs c i k = record {
    standing = k.standing;
    window = window-save t s w r (x ∷ fs) c _ k.window;
    stored = coherent-save t s w r x fs c i k.window k.clean k.holds;
    occupied = unfold save in k.occupied;
  }

  pub aside-between : (fs : List Frame) (c : Core) (cache : List ℕ) → length cache ≡ t.stack → Aside t s r.ground fs c
      → Aside t s r.ground fs (with_cache cache c)
  aside-between fs c cache e k = record {
    standing = k.standing;
    window = window-between t s w r fs c cache e k.window;
    stored = k.stored;
    occupied = k.occupied;
  }

  pub aside-resume : (x : Frame) (fs : List Frame) (c : Core) → In t x → Aside t s r.ground (x ∷ fs) c
      → Running t s r.ground (x ∷ fs) (resume (s.at x.fn x.at).dead (s.at x.fn x.at).need c).core
  unfolding Occupied
  aside-resume x fs c i k = record {
    standing = k.standing;
    window = window-resume t s w r x fs c _ k.window;
    clean = clean-resume c _ _ (omega (arith, k.window.fits, k.window.blocks));
    holds = coherent-resume t s w r x fs c _ i k.window k.stored;
    occupied = unfold resume in fewer t s r.ground x fs c.occupancy _ (omega arith) k.occupied;
  }

  -- a step
  pub fair-step : (x : Frame) (fs : List Frame) (c : Core) (y : Point) (v : ℕ) → point (func t x.fn) x.at ≡ y → In t x → Below t x.fn fs
      → Running t s r.ground (x ∷ fs) c
      → Fair t s r.ground (x ∷ fs) c (stepped t x fs y v) (step_turn t x.fn x.at (places fs) c y v) (step_bound s x.fn x.at y)
      (loaded_from x.numbers y)
  unfolding Occupied
  fair-step x fs c y v e i b k = record {
    frames = frames-step t x fs c y v;
    runs = record {
      standing = standing-step t w x fs y v e i b;
      window = window-step t s w r x fs c y v e i b k.window;
      clean = clean_step t s w r x fs c y v e i b k.window k.clean;
      holds = coherent-step t s w r x fs c y v e i b k.window k.clean k.holds;
      occupied = occupied-step t s w r x fs c y v e i b k.window k.occupied;
    };
    answers = answer-step t s w r x fs c y v e i k.window k.holds;
    pays = step-covered t s w r x fs c y v e i b k.window k.clean k.occupied;
  }

  -- a preemption: both halves, whatever the others leave in the cache between them
  pub fair-preempt : (x : Frame) (fs : List Frame) (c : Core) (cache : List ℕ) → length cache ≡ t.stack → In t x → Below t x.fn fs
      → Running t s r.ground (x ∷ fs) c
      → Fair t s r.ground (x ∷ fs) c (x ∷ fs) (preempt_turn s x.fn x.at (places fs) c cache) (s.at x.fn x.at).cost 0
  unfolding places Occupied Needed
  fair-preempt x fs c cache e i b k = record {
    frames = refl;
    runs = aside-resume x fs _ i (aside-between (x ∷ fs) _ cache e (runs-save x fs c i k));
    answers = refl;
    pays =
        unfold resume in unfold save in
        omega (arith, preempt-covered t s w r x fs c.occupancy (effective c) i b (effective-between c k.clean).1 k.occupied.here.high k.window.needed);
  }

  -- an event that is not refused
  pub fair-event : (fs : List Frame) (c : Core) (a : Act) → Standing t fs → Running t s r.ground fs c
      → Fair t s r.ground fs c (after_event t fs a) (turn t s (record { frames = places fs; core = c }) a) (event_bound t s fs a) (answer_of t fs a)
  unfolding turn places after_event event_bound answer_of
  fair-event [] c a j k = record { frames = refl; runs = k; answers = refl; pays = omega (arith, r.price.none) }
  fair-event (x ∷ fs) c (takes v) (Standing.runs i b) k = fair-step x fs c (point (func t x.fn) x.at) v refl i b k
  fair-event (x ∷ fs) c (preempted v) (Standing.runs i b) k =
      fair-preempt x fs c (filled_with v c) (length-replicate (length c.cache) v ∙ k.window.blocks) i b k

  -- from every state that a run can be in
  pub fair-from : (i : ℕ) (es : List Event) (fs : List Frame) (c : Core) → Running t s r.ground fs c
      → FairRun (ran_from t s i (record { frames = places fs; core = c }) es) (plain_from t i fs es) (allowed_from t s i fs es)
      (potential t s r.ground fs c.occupancy)
  unfolding ran_from plain_from allowed_from turn
  fair-from i [] fs c k = record { ending = refl; done = refl; answers = refl; bounded = omega arith; clean = k.clean }
  fair-from i (e ∷ es) fs c k =
      let f = fair-event fs c (act e) k.standing k in
      let u = turn t s (record { frames = places fs; core = c }) (act e) in
      rw (running-same t fs, state-is u.state (after_event t fs (act e)) f.frames)
      (fair-or s (event_rows i e.kind e.value (running t fs)) c u _ _ _ _ _ _ _ k.clean f.answers f.pays
      (fair-from (suc i) es (after_event t fs (act e)) u.state.core f.runs))

  -- function 0 has just been entered on a core that had no frames
  pub runs-start : 0 < count t → (c : Core) → Window t s [] c → Clean c
      → Running t s r.ground (main_frames t) (reserve (func t 0).frame c).core
  runs-start h c u k = record {
    standing = standing-start t w h;
    window = window-start t s w r h c u;
    clean = clean-reserve c k (func t 0).frame (room-start t s w r h c u);
    holds = coherent-start t s w r h c;
    occupied = occupied-start t s w r h c u;
  }

  -- from there, whatever cache and memory hold
  fair-main : 0 < count t → (c : Core) (es : List Event) → Window t s [] c → Clean c
      → FairRun (ran_from t s 0 (main_state t c) es) (plain_from t 0 (main_frames t) es) (allowed_from t s 0 (main_frames t) es) 0
  unfolding places
  fair-main h c es u k =
      rw (potential-start t s w r h c u) at (fair-from 0 es (main_frames t) (reserve (func t 0).frame c).core (runs-start h c u k))

-- ---- a task that has finished

-- its first event is refused: no event is done, nothing is moved, and nothing is allowed
pub finished-plain : (t : Task) (es : List Event) → plain_from t 0 [] es ≡ none_plain (first_row es)
unfolding plain_from event_rows
finished-plain t [] = refl
finished-plain t (e ∷ es) = refl

module _ (t : Task) (s : Sheet) where
  pub finished-ran : (c : Core) (es : List Event) → ran_from t s 0 (finished_state c) es ≡ none_ran (first_row es) c
  unfolding ran_from event_rows
  finished-ran c [] = refl
  finished-ran c (e ∷ es) = refl

  pub finished-allowed : (es : List Event) → allowed_from t s 0 [] es ≡ 0
  unfolding allowed_from event_rows
  finished-allowed [] = refl
  finished-allowed (e ∷ es) = refl

  fair-finished : (c : Core) → Clean c → (es : List Event)
      → FairRun (ran_from t s 0 (finished_state c) es) (plain_from t 0 [] es) (allowed_from t s 0 [] es) 0
  fair-finished c k es =
      rw (finished-ran c es, finished-plain t es, finished-allowed es)
      (record { ending = refl; done = refl; answers = refl; bounded = omega arith; clean = k })

-- ---- a fresh start

-- by whether there is a function
pub by-stack : (n : ℕ) (P : Bool → Type 0) → P true → (0 < n → P false) → P (eqb n 0)
by-stack zero P a b = a
by-stack (suc n) P a b = rw (eqb-suc-zero n) (b (omega arith))

-- P: of the states and the frames that a task starts with
pub by-start : (t : Task) (P : (Core → State) → List Frame → Type 0) → P finished_state [] → (0 < count t → P (main_state t) (main_frames t))
    → P (fresh_state t) (first_frames t)
by-start t P a b = by-stack (count t) (λ z. P (λ c. if z then finished_state c else main_state t c) (if z then [] else main_frames t)) a b

-- a run starts in function 0, where there is one
pub ran-main : (t : Task) (s : Sheet) (c : Core) (es : List Event) → 0 < count t → ran t s c es ≡ ran_from t s 0 (main_state t c) es
ran-main t s c es h = ap (λ (b : Bool). ran_from t s 0 (if b then finished_state c else main_state t c) es) (ne_eqb (count t) 0 (λ e. omega arith))

pub allowed-main : (t : Task) (s : Sheet) (es : List Event) → 0 < count t → allowed t s es ≡ allowed_from t s 0 (main_frames t) es
allowed-main t s es h = ap (λ (fs : List Frame). allowed_from t s 0 fs es) (first-main t h)

-- where there is none it has finished
pub ran-none : (t : Task) (s : Sheet) (c : Core) (es : List Event) → count t ≡ 0 → ran t s c es ≡ ran_from t s 0 (finished_state c) es
ran-none t s c es e = ap (λ (b : Bool). ran_from t s 0 (if b then finished_state c else main_state t c) es) (eq-eqb (count t) 0 e)

pub allowed-none : (t : Task) (s : Sheet) (es : List Event) → count t ≡ 0 → allowed t s es ≡ allowed_from t s 0 [] es
allowed-none t s es e = ap (λ (fs : List Frame). allowed_from t s 0 fs es) (first-none t e)

-- a run of any task, with a stack or without
pub fair-run : (t : Task) (s : Sheet) → WellFormed t → Sound t s → (c : Core) (es : List Event) → (0 < count t → Window t s [] c) → Clean c
    → FairRun (ran t s c es) (plain t es) (allowed t s es) 0
fair-run t s w r c es u k =
    by-start t (λ x fs. FairRun (ran_from t s 0 (x c) es) (plain_from t 0 fs es) (allowed_from t s 0 fs es) 0) (fair-finished t s c k es)
    (λ h. fair-main t s w r h c es (u h) k)
