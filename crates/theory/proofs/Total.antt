-- The total of a report (document 02, request 5): it is the sum of the costs of all points of all functions, it has a summand for each point of the task, and
-- the rule for d before request 4 gives none that is lower.
use Prim.Native.Nat.{ℕ, ◌≤◌, ◌<◌}
use mathlib.Core.List.{List}
use mathlib.Core.Path.{◌≡◌, ap, ◌∙◌}
use native.Mathlib.Omega.{arith}
use lib.ListN.{length, length-map}
use Rattle.model.specs.Basic.{sum_of, up_to}
use Rattle.model.specs.Task.{Task, task, size, count, in_all, func, empty}
use Rattle.model.specs.Sheet.{Sheet, priced_sheet, record_at, records_in, records_of, total_of}
use Rattle.model.specs.Refusal.{judged}
use Rattle.theory.specs.Sound.{Price}
use Rattle.theory.specs.Displacement.{sheet_before}
use Rattle.theory.proofs.Lists.{mem-up_to, length-up_to, sum_mono, sum-map, sum-joined, length-joined, sum-places}
use Rattle.theory.proofs.Before.{never-rises}

-- the costs of the points of a function, and of all functions
abbrev pub costs_in : Task → Sheet → ℕ → ℕ
costs_in t s f = sum_of (λ p. (s.at f p).cost) (up_to (size (func t f)))

abbrev pub costs_of : Task → Sheet → ℕ
costs_of t s = sum_of (costs_in t s) (up_to (count t))

module _ (t : Task) (s : Sheet) where
  pub total-in : (f : ℕ) → total_of (records_in t s f) ≡ costs_in t s f
  unfolding total_of records_in
  total-in f = sum-map (λ x. x.figures.cost) (record_at s f) (up_to (size (func t f)))

  pub total-is : total_of (records_of t s) ≡ costs_of t s
  unfolding total_of records_of
  total-is =
      sum-joined (λ x. x.figures.cost) (records_in t s) (up_to (count t))
      ∙ ap (λ (g : ℕ → ℕ). sum_of g (up_to (count t))) (λ i f. total-in f i)

  pub records-count : length (records_of t s) ≡ in_all t.funcs
  unfolding records_of records_in
  records-count =
      length-joined (records_in t s) (up_to (count t))
      ∙ ap (λ (g : ℕ → ℕ). sum_of g (up_to (count t))) (λ i f. (length-map (up_to (size (func t f))) (record_at s f) ∙ length-up_to (size (func t f))) i)
      ∙ sum-places size t.funcs empty

-- a sheet with no higher cost has no higher total
pub total_mono : (t : Task) (s r : Sheet) → ((f p : ℕ) → f < count t → p < size (func t f) → (s.at f p).cost ≤ (r.at f p).cost)
    → total_of (records_of t s) ≤ total_of (records_of t r)
total_mono t s r e =
    let less =
    sum_mono {f = costs_in t s} {g = costs_in t r} (up_to (count t)) (λ f m.
    sum_mono (up_to (size (func t f))) (λ p k. e f p ((mem-up_to (count t)).0 m) ((mem-up_to (size (func t f))).0 k))) in
    omega (arith, less, total-is t s, total-is t r)

pub total-never-rises : (text : List ℕ) (t : Task) → judged text ≡ task t → (price : ℕ → ℕ) → Price price
    → total_of (records_of t (priced_sheet price t)) ≤ total_of (records_of t (sheet_before price t))
total-never-rises text t e price c =
    total_mono t (priced_sheet price t) (sheet_before price t) (λ f p l m. ((never-rises text t e price c).at f p l m).cost)
