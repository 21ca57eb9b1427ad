-- Two sheets of a task that have the same figures at its points: all that a report, a run and its bounds look at.
use Rattle.std.specs.Prelude.{ℕ, ◌<◌, ◌≡◌}
use Rattle.model.specs.Task.{Task, count, size, func}
use Rattle.model.specs.Sheet.{Sheet}

pub record Agree (t : Task) (s r : Sheet) : Type 0 where
  pub price : s.price ≡ r.price
  pub spill : (f : ℕ) → f < count t → s.spill f ≡ r.spill f
  pub chain : (f : ℕ) → f < count t → s.chain f ≡ r.chain f
  pub at : (f p : ℕ) → f < count t → p < size (func t f) → s.at f p ≡ r.at f p
