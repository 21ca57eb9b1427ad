-- The shortest displacement d over all walks; and the rule for it before request 4 of document 02, so that the two rules can be
-- compared.
use Rattle.std.specs.Prelude.{if◌then◌else◌, ℕ, zero, suc, ◌+◌, ◌≤◌, ◌<◌, max, Bool, ◌≡◌, T}
use Rattle.model.specs.Basic.{smallest}
use Rattle.model.specs.Task.{Func, Task, size, count, func}
use Rattle.model.specs.Walk.{Carries, leads, is_call, returns, some_walk}
use Rattle.model.specs.Figures.{dead, need, callees, displacement_at}
use Rattle.model.specs.Sheet.{PointSheet, Sheet, sheet_with}

-- some walk from point 0 comes to p, and v is the largest d that it has called on the way
abbrev pub LargestCalled : (ℕ → ℕ) → Func → ℕ → ℕ → Type 0
LargestCalled d x = Carries (leads x) (λ p v. max v (displacement_at d x p)) 0

-- some walk from point 0 to a return calls v at most, and v at least once where v is not 0
abbrev pub CalledToReturn : (ℕ → ℕ) → Func → ℕ → Type 0
CalledToReturn d x v = (p : ℕ) × LargestCalled d x p v × T (returns x p)

-- the rule before: some walk from point 0 to a return makes no call; then d is the frame, and else the frame and the smallest d called
unfoldable pub call_free : Func → Bool
call_free x = some_walk x (is_call x) (returns x) 0

unfoldable pub smallest_to : Task → ℕ → ℕ → ℕ
smallest_to t zero f = 0
smallest_to t (suc n) f =
    if call_free (func t f)
    then (func t f).frame
    else (func t f).frame + smallest (smallest_to t n) (callees (func t f))

-- d by the rule before
unfoldable pub smallest_called : Task → ℕ → ℕ
smallest_called t f = smallest_to t (count t) f

-- the sheet by the rule before
abbrev pub sheet_before : (ℕ → ℕ) → Task → Sheet
sheet_before price t = sheet_with price t (smallest_called t) (λ f. dead (func t f)) (λ f. need (func t f))

-- at a point: what d is a part of is no higher, and the rest is equal
pub record NoHigher (a b : PointSheet) : Type 0 where
  pub high : a.high ≤ b.high
  pub save : a.save ≤ b.save
  pub cost : a.cost ≤ b.cost
  pub dead : a.dead ≡ b.dead
  pub need : a.need ≡ b.need
  pub reload : a.reload ≡ b.reload
  pub later : a.later ≡ b.later
  pub chain : a.chain ≡ b.chain
  pub fill : a.fill ≡ b.fill

-- of every function and point of the task t: d by the first rule is at least that by the second, and so the first sheet is at most the second
pub record NeverRises (t : Task) (d e : ℕ → ℕ) (s r : Sheet) : Type 0 where
  pub displaces : (f : ℕ) → f < count t → e f ≤ d f
  pub spill : (f : ℕ) → f < count t → s.spill f ≤ r.spill f
  pub at : (f p : ℕ) → f < count t → p < size (func t f) → NoHigher (s.at f p) (r.at f p)
