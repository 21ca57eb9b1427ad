-- The state of a run as the code has it: the running frame by value, its callers in the working space behind the bounds, the first called one
-- first. And the state and the turn of the model that it stands for.
use Rattle.std.specs.Prelude.{ℕ, zero, suc, ◌+◌, ◌*◌, List, [], ◌∷◌, set}
use Rattle.model.specs.declared.Eviction.{Eviction}
use Rattle.model.specs.Run as run
use Rattle.model.specs.Run.{Place}
use Rattle.tables.specs.Tables.{item}
pub use Rattle.tables.specs.Layout.{frames_at, frames_end}
use Rattle.machine.specs.Moves.{eviction_of, core_of}
use Rattle.steps.specs.declared.State.{State}
use Rattle.steps.specs.declared.Turned.{Turned}

-- caller n of the working space, the space with another one there, and the first n callers, the last called one first
abbrev pub caller_at : List ℕ → ℕ → Place
caller_at w n = record { fn = item w (frames_at + 2 * n); at = item w (frames_at + 2 * n + 1) }

abbrev pub put_caller : List ℕ → ℕ → ℕ → ℕ → List ℕ
put_caller w n f p = set (set w (frames_at + 2 * n) f) (frames_at + 2 * n + 1) p

unfoldable pub places_in : List ℕ → ℕ → List Place
places_in w zero = []
places_in w (suc n) = caller_at w n ∷ places_in w n

-- all frames, where there are this many and the running one is at point p of function f
abbrev pub frames_from : List ℕ → ℕ → ℕ → ℕ → List Place
frames_from w zero f p = []
frames_from w (suc n) f p = record { fn = f; at = p } ∷ places_in w n

abbrev pub frames_of : List ℕ → State → List Place
frames_of w x = frames_from w x.depth x.f x.p

-- how the core of a state evicts
abbrev pub eviction_at : State → Eviction
eviction_at x = eviction_of x.machine.lazy

abbrev pub state_of : List ℕ → State → List ℕ → List ℕ → run.State
state_of w x cache memory = record { frames = frames_of w x; core = core_of x.machine cache memory }

-- out and back: how many blocks the turn moved, which the code has as a price
abbrev pub turn_of : List ℕ → Turned → ℕ → ℕ → List ℕ → List ℕ → run.Turn
turn_of w r out back cache memory =
    record { state = state_of w r.state cache memory; answer = r.answer; out = out; back = back }

-- on at point p of the running frame, with this answer. Nothing moves, and nothing is allowed
abbrev pub plain_turn : State → ℕ → ℕ → Turned
plain_turn x p a =
    record {
      state = record { depth = x.depth; f = x.f; p = p; machine = x.machine; moved = x.moved; allowed = x.allowed };
      answer = a;
    }
