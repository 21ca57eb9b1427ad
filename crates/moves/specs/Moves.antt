-- What a call, an ensure and a preemption are given, and what a preemption does.
use Rattle.std.specs.Prelude.{ℕ, ◌-◌, ◌≤◌, ◌<◌, List, ◌≡◌, length, replicate}
use Rattle.model.specs.Limits.{most_funcs, most_points}
use Rattle.model.specs.declared.Point.{Point}
use Rattle.model.specs.Task.{func}
use Rattle.model.specs.Run.{preempt_turn}
use Rattle.tables.specs.declared.Header.{Header}
use Rattle.tables.specs.declared.Span.{Span}
use Rattle.tables.specs.Tables.{span_at, task_of}
use Rattle.prices.specs.declared.Price.{Price}
use Rattle.prices.specs.Prices.{price_of}
use Rattle.readout.specs.Sheet.{sheet_in}
use Rattle.bounds.specs.Bounds.{Bounded}
use Rattle.machine.specs.Moves.{core_of, OnCache, Good}
use Rattle.steps.specs.declared.State.{State}
use Rattle.steps.specs.declared.Turned.{Turned}
use Rattle.steps.specs.Frames.{places_in}
use Rattle.steps.specs.Steps.{IsTurn, Steps, Counts}

-- in the task and on the sheet of the working space w: a step with value v at point y of the running frame of x
abbrev pub StepsIn : Price → (w : List ℕ) → Header → State → Point → ℕ → (cache memory : List ℕ) → Turned → (w' cache' memory' : List ℕ) → Type 0
StepsIn price w h x y v cache memory r w' cache' memory' = Steps (sheet_in price w h) (task_of w h) x y v w cache memory r w' cache' memory'

-- and a preemption at its point, by a task that leaves v in every block
abbrev pub IsPreemption : Price → (w : List ℕ) → Header → State → ℕ → (cache memory : List ℕ) → Turned → (cache' memory' : List ℕ) → Type 0
IsPreemption price w h x v cache memory r cache' memory' =
    IsTurn (price_of price) x.moved x.allowed r w cache' memory'
    (preempt_turn (sheet_in price w h) x.f x.p (places_in w (x.depth - 1)) (core_of x.machine cache memory) (replicate (length cache) v))
    ((sheet_in price w h).at x.f x.p).cost

-- the running frame is at a point of its function, which is s, and the totals have room
pub record Inside (price : Price) (w : List ℕ) (h : Header) (x : State) (s : Span) : Type 0 where
  pub bounded : Bounded price w h
  pub some : 0 < x.depth
  pub fn_in : x.f < h.funcs
  pub span : s ≡ span_at w x.f
  pub at_in : x.p < s.size
  pub counts : Counts x

-- there is room for one more caller, for the frame of function g in the cache and below ST, and in the totals
pub record Enters (price : Price) (w : List ℕ) (h : Header) (x : State) (cache memory : List ℕ) (g : ℕ) : Type 0 where
  pub bounded : Bounded price w h
  pub some : 0 < x.depth
  pub few : x.depth ≤ most_funcs
  pub fn_in : x.f < h.funcs
  pub small : x.p < most_points
  pub callee : g < h.funcs
  pub on : OnCache x.machine cache
  pub good : Good (core_of x.machine cache memory)
  pub fits : (func (task_of w h) g).frame ≤ length cache
  pub room : (func (task_of w h) g).frame ≤ x.machine.st
  pub counts : Counts x
