-- What a step does, and what one that moves nothing is given: the running frame at its point, the working space, the cache and the memory.
use Rattle.std.specs.Prelude.{ℕ, ◌+◌, ◌-◌, ◌≤◌, ◌<◌, List, ◌≡◌, length}
use Rattle.model.specs.declared.Point.{Point}
use Rattle.model.specs.Limits.{most_funcs, most_points}
use Rattle.model.specs.Sheet.{Sheet}
use Rattle.model.specs.Task.{Task}
use Rattle.model.specs.Run as run
use Rattle.model.specs.Run.{step_turn, step_bound}
use Rattle.tables.specs.Tables.{item}
use Rattle.tables.specs.Valid.{Kept}
use Rattle.machine.specs.Moves.{core_of, most_address, OnCache}
use Rattle.steps.specs.declared.State.{State}
use Rattle.steps.specs.declared.Turned.{Turned}
use Rattle.steps.specs.Frames.{frames_at, frames_end, places_in, turn_of}

-- w' is w but for the callers
pub record Stays (w w' : List ℕ) : Type 0 where
  pub below : (i : ℕ) → i < frames_at → item w' i ≡ item w i
  pub kept : Kept frames_end w w'

-- the most that a turn adds to a total: a number of 32 bits
abbrev pub most_part : ℕ
most_part = 4294967295

-- a total after a part was added to it
abbrev pub Added : ℕ → ℕ → ℕ → Type 0
Added total part sum = (sum ≡ total + part) × (sum ≤ total + most_part)

-- a turn, before which m was moved and a allowed, is this one of the model, and its machine stands on the cache. To m comes what both its moves cost, and
-- to a what the sheet allows it, b
pub record IsTurn (price : ℕ → ℕ) (m a : ℕ) (r : Turned) (w cache memory : List ℕ) (u : run.Turn) (b : ℕ) : Type 0 where
  pub turn : turn_of w r u.out u.back cache memory ≡ u
  pub on : OnCache r.state.machine cache
  pub moved : Added m (price u.out + price u.back) r.state.moved
  pub bound : Added a b r.state.allowed

-- a step with value v at point y of the running frame of x, in a task t, on this sheet
abbrev pub Steps : Sheet → Task → State → Point → ℕ → (w cache memory : List ℕ) → Turned → (w' cache' memory' : List ℕ) → Type 0
Steps sheet t x y v w cache memory r w' cache' memory' =
    IsTurn sheet.price x.moved x.allowed r w' cache' memory'
    (step_turn t x.f x.p (places_in w (x.depth - 1)) (core_of x.machine cache memory) y v)
    (step_bound sheet x.f x.p y)

-- a turn that moves nothing, before which m was moved and a allowed: both stay, at every price and on every sheet
pub record IsPlain (m a : ℕ) (r : Turned) (w cache memory : List ℕ) (u : run.Turn) : Type 0 where
  pub turn : turn_of w r 0 0 cache memory ≡ u
  pub on : OnCache r.state.machine cache
  pub moved : r.state.moved ≡ m
  pub allowed : r.state.allowed ≡ a

-- a step that does so, with value v at point y of the running frame of x
abbrev pub PlainStep : Task → State → Point → ℕ → (w cache memory : List ℕ) → Turned → (w' cache' memory' : List ℕ) → Type 0
PlainStep t x y v w cache memory r w' cache' memory' =
    IsPlain x.moved x.allowed r w' cache' memory' (step_turn t x.f x.p (places_in w (x.depth - 1)) (core_of x.machine cache memory) y v)

-- a total that has room for one part more in 64 bits
abbrev pub most_total : ℕ
most_total = 9223372036854775808

-- both totals of a state have that room
pub record Counts (x : State) : Type 0 where
  pub moved : x.moved ≤ most_total
  pub allowed : x.allowed ≤ most_total

-- ---- what the functions of this crate are given

-- the machine stands on the cache, which is longer than offset o of the running frame, and there is a number for the point after this one
pub record Reaches (x : State) (cache : List ℕ) (o : ℕ) : Type 0 where
  pub some : 0 < x.depth
  pub small : x.p < most_points
  pub on : OnCache x.machine cache
  pub offset : o < length cache

-- the callers are in the working space, the machine stands on the cache, and the frame that is left fits the cache and lies in the memory
pub record Leaves (w : List ℕ) (x : State) (cache : List ℕ) (frame : ℕ) : Type 0 where
  pub space : frames_end ≤ length w
  pub some : 0 < x.depth
  pub few : x.depth ≤ most_funcs
  pub on : OnCache x.machine cache
  pub fits : frame ≤ length cache
  pub address : x.machine.st + frame ≤ most_address
