-- The two cores compared: what is so of an event, of a run and of the service, on a core and on the same core that writes back every block.
use Rattle.std.specs.Prelude.{◌≤◌, ◌≡◌}
use Rattle.model.specs.declared.Eviction.{Eviction}
use Rattle.model.specs.declared.Eviction.TheVariants.{Eager}
use Rattle.model.specs.Core.{Core}
use Rattle.model.specs.Run.{Turn, Ran}
use Rattle.model.specs.Services.{AfterRun}

-- the same core, which evicts so
abbrev pub with_eviction : Eviction → Core → Core
with_eviction x c =
    record { st = c.st; occupancy = c.occupancy; pointer = c.pointer; eviction = x; cache = c.cache; memory = c.memory }

-- the same core, which writes back every block
abbrev pub eagerly : Core → Core
eagerly c = with_eviction Eager c

-- an event's turn u on a core, and its turn v on the same core that writes back every block: they leave the same and answer the same, the
-- same comes back, and no more goes out
pub record Less (u v : Turn) : Type 0 where
  pub frames : v.state.frames ≡ u.state.frames
  pub core : v.state.core ≡ eagerly u.state.core
  pub answer : v.answer ≡ u.answer
  pub out : u.out ≤ v.out
  pub back : v.back ≡ u.back

-- a run q on a core, and the run r of the same events on the same core that writes back every block
pub record LessRun (q r : Ran) : Type 0 where
  pub ending : r.ending ≡ q.ending
  pub done : r.done ≡ q.done
  pub answers : r.answers ≡ q.answers
  pub core : r.core ≡ eagerly q.core
  pub moved : q.moved ≤ r.moved

-- what a service has returned and left: a and b agree in all but what was moved, and that is no more in a
pub record LessAfter (a b : AfterRun) : Type 0 where
  pub ending : b.result.ending ≡ a.result.ending
  pub done : b.result.done ≡ a.result.done
  pub allowed : b.result.allowed ≡ a.result.allowed
  pub work : b.work ≡ a.work
  pub answers : b.answers ≡ a.answers
  pub cache : b.cache ≡ a.cache
  pub memory : b.memory ≡ a.memory
  pub moved : a.result.moved ≤ b.result.moved
