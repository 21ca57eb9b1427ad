-- A run on the core: what each event does to the frames, the cache and the memory, what it moves, and what the sheet allows.
use Rattle.std.specs.Prelude.{if◌then◌else◌, ℕ, suc, ◌+◌, ◌≤◌, ◌≡◌, List, [], ◌∷◌, eqb}
use Rattle.std.proofs.Math.Option.{Option, none, some}
use Rattle.model.specs.declared.Point.{Point}
use Rattle.model.specs.declared.Point.TheVariants.{Load, Store, Call, Ensure, Goto, Either, Return}
use Rattle.model.specs.declared.Refusal.{Refusal}
use Rattle.model.specs.declared.Ending.{Ending}
use Rattle.model.specs.declared.Ending.TheVariants.{AllDone, Refused}
use Rattle.model.specs.Task.{Task, func, point, stackless}
use Rattle.model.specs.Core.{Core, Clean, effective, save_moves, resume_moves, reserve, free, ensure, load, store, preempt, filled_with}
use Rattle.model.specs.Sheet.{Sheet}
use Rattle.model.specs.Refusal.{event_rows}
use Rattle.model.specs.Plain.{Event, Act, takes, preempted, act, Frame, running, after_event, first_frames, plain}

-- a frame of the run is a function and a point: its numbers are in the cache and the memory
pub record Place : Type 0 where
  pub fn : ℕ
  pub at : ℕ

-- the frames, the running one first, and the core
pub record State : Type 0 where
  pub frames : List Place
  pub core : Core

-- an event's state after it, answer and moves: how many blocks went out to memory and how many came back
pub record Turn : Type 0 where
  pub state : State
  pub answer : ℕ
  pub out : ℕ
  pub back : ℕ

abbrev pub running_place : Task → List Place → Option Point
running_place t [] = none
running_place t (x ∷ fs) = some (point (func t x.fn) x.at)

-- on inside function f at point p, with this core, answer and moves
abbrev pub onwards : ℕ → ℕ → List Place → Core → ℕ → ℕ → ℕ → Turn
onwards f p fs c a o b =
    record { state = record { frames = record { fn = f; at = p } ∷ fs; core = c }; answer = a; out = o; back = b }

-- a step with value v at point p of function f
abbrev pub step_turn : Task → ℕ → ℕ → List Place → Core → Point → ℕ → Turn
step_turn t f p fs c (Load o) v = onwards f (suc p) fs c (load o c) 0 0
step_turn t f p fs c (Store o) v = onwards f (suc p) fs (store o v c) 0 0 0
step_turn t f p fs c (Call g) v =
    onwards
    g
    0
    (record { fn = f; at = suc p } ∷ fs)
    (reserve (func t g).frame c).core
    0
    (reserve (func t g).frame c).blocks
    0
step_turn t f p fs c (Ensure k) v = onwards f (suc p) fs (ensure k c).core 0 0 (ensure k c).blocks
step_turn t f p fs c (Goto q) v = onwards f q fs c 0 0 0
step_turn t f p fs c (Either q r) v = onwards f (if eqb v 0 then q else r) fs c 0 0 0
step_turn t f p fs c Return v =
    record { state = record { frames = fs; core = free (func t f).frame c }; answer = 0; out = 0; back = 0 }

-- a preemption there, others having left this cache
abbrev pub preempt_turn : Sheet → ℕ → ℕ → List Place → Core → List ℕ → Turn
preempt_turn s f p fs c cache =
    onwards
    f
    p
    fs
    (preempt (s.at f p).dead (s.at f p).need cache c)
    0
    (save_moves (s.at f p).dead c.occupancy (effective c))
    (resume_moves (s.at f p).dead (s.at f p).need c.occupancy)

-- an event that is not refused
abbrev pub turn_at : Task → Sheet → List Place → Core → Act → Turn
turn_at t s [] c a = record { state = record { frames = []; core = c }; answer = 0; out = 0; back = 0 }
turn_at t s (x ∷ fs) c (takes v) = step_turn t x.fn x.at fs c (point (func t x.fn) x.at) v
turn_at t s (x ∷ fs) c (preempted v) = preempt_turn s x.fn x.at fs c (filled_with v c)

unfoldable pub turn : Task → Sheet → State → Act → Turn
turn t s x a = turn_at t s x.frames x.core a

-- what a run gives: how it ended, how many events were done, what it moved, the answers, and the core as it was left
pub record Ran : Type 0 where
  pub ending : Ending
  pub done : ℕ
  pub moved : ℕ
  pub answers : List ℕ
  pub core : Core

-- moved is the price of both moves of each event done
abbrev pub or_ran : (ℕ → ℕ) → Option Refusal → Core → Turn → Ran → Ran
or_ran price (some r) c u rest = record { ending = Refused r; done = 0; moved = 0; answers = []; core = c }
or_ran price none c u rest =
    record {
      ending = rest.ending;
      done = suc rest.done;
      moved = price u.out + price u.back + rest.moved;
      answers = u.answer ∷ rest.answers;
      core = rest.core;
    }

-- the events from number i on, at this state
unfoldable pub ran_from : Task → Sheet → ℕ → State → List Event → Ran
ran_from t s i x [] = record { ending = AllDone; done = 0; moved = 0; answers = []; core = x.core }
ran_from t s i x (e ∷ es) =
    or_ran
    s.price
    (event_rows i e.kind e.value (running_place t x.frames))
    x.core
    (turn t s x (act e))
    (ran_from t s (suc i) (turn t s x (act e)).state es)

-- function 0 has just been entered on core c, and cache and memory hold whatever they were lent with
abbrev pub main_state : Task → Core → State
main_state t c = record { frames = record { fn = 0; at = 0 } ∷ []; core = (reserve (func t 0).frame c).core }

-- a task that has finished on core c
abbrev pub finished_state : Core → State
finished_state c = record { frames = []; core = c }

-- a fresh start: function 0 has been entered; a task without a stack has finished, and nothing is touched
abbrev pub fresh_state : Task → Core → State
fresh_state t c = if stackless t then finished_state c else main_state t c

abbrev pub ran : Task → Sheet → Core → List Event → Ran
ran t s c es = ran_from t s 0 (fresh_state t c) es

-- what the sheet allows an event at a frame of the plain stack: the callee's spill for a call, the fill for an ensure, the point's
-- cost for a preemption
abbrev pub step_bound : Sheet → ℕ → ℕ → Point → ℕ
step_bound s f p (Load o) = 0
step_bound s f p (Store o) = 0
step_bound s f p (Call g) = s.spill g
step_bound s f p (Ensure k) = (s.at f p).fill
step_bound s f p (Goto q) = 0
step_bound s f p (Either q r) = 0
step_bound s f p Return = 0

unfoldable pub event_bound : Task → Sheet → List Frame → Act → ℕ
event_bound t s [] a = 0
event_bound t s (x ∷ fs) (takes v) = step_bound s x.fn x.at (point (func t x.fn) x.at)
event_bound t s (x ∷ fs) (preempted v) = (s.at x.fn x.at).cost

abbrev pub or_bound : Option Refusal → ℕ → ℕ → ℕ
or_bound (some r) a rest = 0
or_bound none a rest = a + rest

-- the sum over the events done, from number i on, at these frames of the plain stack
unfoldable pub allowed_from : Task → Sheet → ℕ → List Frame → List Event → ℕ
allowed_from t s i fs [] = 0
allowed_from t s i fs (e ∷ es) =
    or_bound
    (event_rows i e.kind e.value (running t fs))
    (event_bound t s fs (act e))
    (allowed_from t s (suc i) (after_event t fs (act e)) es)

abbrev pub allowed : Task → Sheet → List Event → ℕ
allowed t s es = allowed_from t s 0 (first_frames t) es

-- demand 3, of one run from a fresh start on core c: it ends, counts its events and answers as the plain stack does, it moves at
-- most what the sheet allows, and it leaves the blocks from LP up to MT equal to memory
pub record Faithful (t : Task) (s : Sheet) (c : Core) (es : List Event) : Type 0 where
  pub ending : (ran t s c es).ending ≡ (plain t es).ending
  pub done : (ran t s c es).done ≡ (plain t es).done
  pub answers : (ran t s c es).answers ≡ (plain t es).answers
  pub bounded : (ran t s c es).moved ≤ allowed t s es
  pub clean : Clean (ran t s c es).core
