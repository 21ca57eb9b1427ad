-- What an event is given and does: the running frame at its point, the working space, the cache and the memory.
use Rattle.std.specs.Prelude.{ℕ, ◌+◌, ◌%◌, ◌<◌, List, ◌≡◌, length, Result, Ok, Err}
use Rattle.std.proofs.Math.Option.{Option, none, some}
use Rattle.model.specs.declared.Eviction.{Eviction}
use Rattle.model.specs.declared.Point.{Point}
use Rattle.model.specs.declared.Refusal.{Refusal}
use Rattle.model.specs.Task.{func, point}
use Rattle.model.specs.Core.{idle}
use Rattle.model.specs.Refusal.{event_rows}
use Rattle.model.specs.Plain.{Frame, Act, takes, preempted, act}
use Rattle.turns.specs.declared.Event.{Event}
use Rattle.turns.specs.declared.Event.TheVariants.{Step, Preempt}
use Rattle.model.specs.Run as run
use Rattle.model.specs.Run.{event_bound, main_state}
use Rattle.theory.specs.Sound.{Sound}
use Rattle.theory.proofs.Frames.{places}
use Rattle.theory.proofs.Fair.{Running}
use Rattle.tables.specs.declared.Header.{Header}
use Rattle.tables.specs.declared.Span.{Span}
use Rattle.tables.specs.Tables.{size_at, task_of}
use Rattle.tables.specs.Valid.{Settled}
use Rattle.prices.specs.declared.Price.{Price}
use Rattle.prices.specs.Prices.{price_of}
use Rattle.readout.specs.Sheet.{sheet_in}
use Rattle.bounds.specs.Bounds.{Bounded}
use Rattle.machine.specs.Moves.{core_of, OnCache}
use Rattle.steps.specs.declared.State.{State}
use Rattle.steps.specs.declared.Turned.{Turned}
use Rattle.steps.specs.Frames.{frames_of, state_of, turn_of}
use Rattle.steps.specs.Steps.{Stays, Added}
use Rattle.moves.specs.Moves.{Inside}

-- the working space has the task, a sheet and the bounds of its events, and the state is one that a run can be in: what an event starts
-- from. frames: those of the plain stack; sound: the sheet obeys the rules; on: the machine stands on the cache
pub record Runs (price : Price) (w : List ℕ) (h : Header) (x : State) (cache memory : List ℕ) : Type 0 where
  pub bounded : Bounded price w h
  pub frames : List Frame
  pub same : frames_of w x ≡ places frames
  pub sound : Sound (task_of w h) (sheet_in price w h)
  pub on : OnCache x.machine cache
  pub running : Running (task_of w h) (sheet_in price w h) sound.ground frames (core_of x.machine cache memory)

-- the running frame, where there is one, is at a point of the task: all that a row of an event looks at
pub record Placed (w : List ℕ) (h : Header) (x : State) : Type 0 where
  pub settled : Settled w h
  pub fn_in : 0 < x.depth → x.f < h.funcs
  pub at_in : 0 < x.depth → x.p < size_at w x.f

-- what an event of this kind and value asks for
abbrev pub act_of : ℕ → ℕ → Act
act_of kind value = act (record { kind = kind; value = value })

abbrev pub act_in : Event → Act
act_in (Step value) = takes value
act_in (Preempt value) = preempted value

-- r is the event of this kind and value, or the row that refuses it as event i, where the running frame stands at p
abbrev pub Decodes : (i kind value : ℕ) → Option Point → Result Event Refusal → Type 0
Decodes i kind value p (Ok e) = (event_rows i kind value p ≡ none) × (act_in e ≡ act_of kind value)
Decodes i kind value p (Err r) = event_rows i kind value p ≡ some r

-- what the model's run does at an event
abbrev pub model_turn : Price → List ℕ → Header → State → List ℕ → List ℕ → Act → run.Turn
model_turn price w h x cache memory a = run.turn (task_of w h) (sheet_in price w h) (state_of w x cache memory) a

-- an event does what the model's turn does, what its moves cost was moved more, the sheet allows more what it allows on any plain stack with these frames,
-- and the working space is as it was but for the callers
pub record Turns (price : Price) (w : List ℕ) (h : Header) (x : State) (cache memory : List ℕ) (a : Act) (r : Turned)
    (w' cache' memory' : List ℕ) : Type 0 where
  pub turn : turn_of w' r (model_turn price w h x cache memory a).out
      (model_turn price w h x cache memory a).back cache' memory' ≡ model_turn price w h x cache memory a
  pub on : OnCache r.state.machine cache'
  pub moved : Added x.moved (price_of price (model_turn price w h x cache memory a).out + price_of price (model_turn price w h x cache memory a).back)
      r.state.moved
  pub bound : (fs : List Frame) → frames_of w x ≡ places fs
      → Added x.allowed (event_bound (task_of w h) (sheet_in price w h) fs a) r.state.allowed
  pub stays : Stays w w'

-- function 0 has been entered on the core that evicts so, with any cache of the task's size and any memory of this many numbers; nothing was moved, and
-- nothing is allowed
pub record Started (e : Eviction) (w : List ℕ) (h : Header) (numbers : ℕ) (x : State) : Type 0 where
  pub state : (cache memory : List ℕ) → length cache ≡ h.stack → length memory ≡ numbers
      → state_of w x cache memory ≡ main_state (task_of w h) (idle e cache memory)
  pub top : x.machine.top ≡ x.machine.st % h.stack
  pub moved : x.moved ≡ 0
  pub allowed : x.allowed ≡ 0

-- the running frame of a run stands at point y of s
pub record StandsAt (price : Price) (w : List ℕ) (h : Header) (x : State) (cache memory : List ℕ) (s : Span) (y : Point) : Type 0 where
  pub runs : Runs price w h x cache memory
  pub inside : Inside price w h x s
  pub here : point (func (task_of w h) x.f) x.p ≡ y
