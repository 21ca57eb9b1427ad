-- The plain stack: the reference semantics, a stack in memory without a cache. It fixes what loads answer and what is refused, and is fed
-- the task of a text and the events, nothing else.
use Rattle.std.specs.Prelude.{if◌then◌else◌, ℕ, suc, List, [], ◌∷◌, get_or, set, replicate, eqb}
use Rattle.std.proofs.Math.Option.{Option, none, some}
use Rattle.model.specs.declared.Point.{Point}
use Rattle.model.specs.declared.Point.TheVariants.{Load, Store, Call, Ensure, Goto, Either, Return}
use Rattle.model.specs.declared.Refusal.{Refusal}
use Rattle.model.specs.declared.Ending.{Ending}
use Rattle.model.specs.declared.Ending.TheVariants.{AllDone, Refused}
use Rattle.model.specs.Task.{Task, func, point, stackless}
use Rattle.model.specs.Refusal.{event_rows}

-- an event: kind 0 takes a step, kind 1 preempts
pub record Event : Type 0 where
  pub kind : ℕ
  pub value : ℕ

-- what an event that is not refused asks for: a step with a value, or a preemption by a task that leaves a value
pub data Act : Type 0 where
  takes : ℕ → Act
  preempted : ℕ → Act

unfoldable pub act : Event → Act
act e = if eqb e.kind 0 then takes e.value else preempted e.value

-- the events of a list of numbers, two numbers each
unfoldable pub events_of : List ℕ → List Event
events_of [] = []
events_of (k ∷ []) = []
events_of (k ∷ v ∷ l) = record { kind = k; value = v } ∷ events_of l

-- a frame: its function, its point and its numbers. The running frame is the first of a list of frames, its caller the next
pub record Frame : Type 0 where
  pub fn : ℕ
  pub at : ℕ
  pub numbers : List ℕ

abbrev pub entered : Task → ℕ → Frame
entered t f = record { fn = f; at = 0; numbers = replicate (func t f).frame 0 }

abbrev pub moved_to : ℕ → Frame → Frame
moved_to p x = record { fn = x.fn; at = p; numbers = x.numbers }

-- the point of the running frame; none once the task has finished
abbrev pub running : Task → List Frame → Option Point
running t [] = none
running t (x ∷ fs) = some (point (func t x.fn) x.at)

-- the frames after a step with value v of frame x, at its point, fs being the frames below
abbrev pub stepped : Task → Frame → List Frame → Point → ℕ → List Frame
stepped t x fs (Load o) v = moved_to (suc x.at) x ∷ fs
stepped t x fs (Store o) v = record { fn = x.fn; at = suc x.at; numbers = set x.numbers o v } ∷ fs
stepped t x fs (Call g) v = entered t g ∷ moved_to (suc x.at) x ∷ fs
stepped t x fs (Ensure k) v = moved_to (suc x.at) x ∷ fs
stepped t x fs (Goto q) v = moved_to q x ∷ fs
stepped t x fs (Either q r) v = moved_to (if eqb v 0 then q else r) x ∷ fs
stepped t x fs Return v = fs

-- the frames after an event that is not refused: a preemption changes nothing
unfoldable pub after_event : Task → List Frame → Act → List Frame
after_event t [] a = []
after_event t (x ∷ fs) (takes v) = stepped t x fs (point (func t x.fn) x.at) v
after_event t (x ∷ fs) (preempted v) = x ∷ fs

-- the answer of such an event: the number loaded, else 0
abbrev pub loaded_from : List ℕ → Point → ℕ
loaded_from l (Load o) = get_or l o 0
loaded_from l (Store o) = 0
loaded_from l (Call f) = 0
loaded_from l (Ensure k) = 0
loaded_from l (Goto p) = 0
loaded_from l (Either p q) = 0
loaded_from l Return = 0

unfoldable pub answer_of : Task → List Frame → Act → ℕ
answer_of t [] a = 0
answer_of t (x ∷ fs) (takes v) = loaded_from x.numbers (point (func t x.fn) x.at)
answer_of t (x ∷ fs) (preempted v) = 0

-- what the plain stack gives: how it ended, how many events were done, and the answer of each
pub record Plain : Type 0 where
  pub ending : Ending
  pub done : ℕ
  pub answers : List ℕ

abbrev pub or_plain : Option Refusal → ℕ → Plain → Plain
or_plain (some r) a rest = record { ending = Refused r; done = 0; answers = [] }
or_plain none a rest = record { ending = rest.ending; done = suc rest.done; answers = a ∷ rest.answers }

-- the events from number i on, at these frames
unfoldable pub plain_from : Task → ℕ → List Frame → List Event → Plain
plain_from t i fs [] = record { ending = AllDone; done = 0; answers = [] }
plain_from t i fs (e ∷ es) =
    or_plain
    (event_rows i e.kind e.value (running t fs))
    (answer_of t fs (act e))
    (plain_from t (suc i) (after_event t fs (act e)) es)

-- function 0 has been entered, its frame all zeros
abbrev pub main_frames : Task → List Frame
main_frames t = entered t 0 ∷ []

-- a fresh start: function 0 has been entered; a task without a stack has finished
abbrev pub first_frames : Task → List Frame
first_frames t = if stackless t then [] else main_frames t

abbrev pub plain : Task → List Event → Plain
plain t es = plain_from t 0 (first_frames t) es
