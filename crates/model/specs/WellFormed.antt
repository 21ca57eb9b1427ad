-- What acceptance says of a task: rows 2 to 13 as facts about it. The figures, the machine and the services are proved of tasks that these facts
-- describe; that the task of an accepted text is one of them is proved in the crate theory.
use Rattle.std.specs.Prelude.{ℕ, ◌≤◌, ◌<◌, Bool, T}
use Rattle.model.specs.Limits.{most_stack, most_funcs, most_points, most_in_all}
use Rattle.model.specs.Task.{Task, size, count, in_all, func, point, offset_fits}
use Rattle.model.specs.Walk as Walk
use Rattle.model.specs.Figures.{reached}
use Rattle.model.specs.Refusal.{callee_fits, targets_fit, end_fits, is_called, stored_before}
use Rattle.model.specs.Refusal as Refusal

-- a test holds at every point of the task
abbrev pub AtAll : Task → (ℕ → ℕ → Bool) → Type 0
AtAll t test = (f p : ℕ) → f < count t → p < size (func t f) → T (test f p)

-- rows 2 to 6: the task is within the limits
pub record Shaped (t : Task) : Type 0 where
  pub stack_low : 0 < count t → 1 ≤ t.stack
  pub stack_high : t.stack ≤ most_stack
  pub few : count t ≤ most_funcs
  pub all : in_all t.funcs ≤ most_in_all
  pub frames : (f : ℕ) → f < count t → (func t f).frame ≤ t.stack
  pub nonempty : (f : ℕ) → f < count t → 1 ≤ size (func t f)
  pub small : (f : ℕ) → f < count t → size (func t f) ≤ most_points
  pub offsets : AtAll t (λ f p. offset_fits (func t f).frame (point (func t f) p))

-- rows 7 to 10: calls go to later functions, ensures stand directly after calls, and no point leads out of its function
pub record Linked (t : Task) : Type 0 where
  pub callee : AtAll t (λ f p. callee_fits t f (Walk.called (point (func t f) p)))
  pub paired : AtAll t (λ f p. Refusal.paired (func t f) p)
  pub targets : AtAll t (λ f p. targets_fit (func t f) (point (func t f) p))
  pub end : AtAll t (λ f p. end_fits (func t f) p)

-- row 11: some walk reaches every point
abbrev pub AllReached : Task → Type 0
AllReached t = AtAll t (λ f p. reached (func t f) p)

-- row 12: every function but the first is called
abbrev pub AllCalled : Task → Type 0
AllCalled t = (f : ℕ) → 0 < f → f < count t → T (is_called t f)

-- row 13: every walk stores an offset before it loads it
abbrev pub AllStored : Task → Type 0
AllStored t = AtAll t (λ f p. stored_before (func t f) p (Walk.loaded (point (func t f) p)))

-- rows 2 to 13
pub record WellFormed (t : Task) : Type 0 where
  pub shaped : Shaped t
  pub linked : Linked t
  pub reach : AllReached t
  pub called : AllCalled t
  pub loads : AllStored t
