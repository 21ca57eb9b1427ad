-- The ten dearest points: records of the report, none twice, each before the next, and none that is left out comes before one that is listed. Their
-- order is strict, and total on records of different points.
use Prim.Native.Nat.{ℕ, zero, suc, ◌+◌, ◌≤◌, ◌<◌}
use mathlib.Core.List.{List, map, Memᴰ}
use mathlib.Core.Logic.{◌⊎◌, inl, inr, ⊎_elim}
use mathlib.Core.Path.{◌≡◌, refl, sym}
use native.Mathlib.Decide.{dec_lt}
use native.Mathlib.Omega.{arith}
use lib.Dec.{T, ltb, ltb→lt, lt→ltb}
use Rattle.model.specs.Limits.{most_dearest}
use Rattle.model.specs.Basic.{joined, count_from, up_to}
use Rattle.model.specs.Task.{Task, size, count, func}
use Rattle.model.specs.Sheet.{Sheet, Record, record_at, records_in, records_of}
use Rattle.model.specs.Dearest.{placed_before, saved_before, dearer, dearest}
use Rattle.theory.specs.Order.{Pairs, StrictOrder, Firsts, Apart}
use Rattle.theory.proofs.Lists.{mem-joined, mem-count_from, mem-up_to, mem-map}
use Rattle.theory.proofs.Sorting.{first_holds, by-smaller, by-larger, pairs-by, pairs-append, firsts}

-- ---- the order

point_total : (x y : Record) → Apart x y → x.fn ≡ y.fn → T (ltb x.at y.at) ⊎ T (ltb y.at x.at)
point_total x y a e =
    elim (dec_lt x.at y.at) [
      | yes h ↦ inl (lt→ltb x.at y.at h)
      | no h ↦ elim (dec_lt y.at x.at) [ yes k ↦ inr (lt→ltb y.at x.at k) | no k ↦ absurd (a e (omega arith)) ]
    ]

pub placed-order : StrictOrder Apart placed_before
placed-order =
    by-smaller Apart (λ x. x.fn) (λ x y. ltb x.at y.at)
    (λ x y z h k. lt→ltb x.at z.at (omega (arith, ltb→lt x.at y.at h, ltb→lt y.at z.at k)))
    (λ x h. let k = ltb→lt x.at x.at h in omega arith)
    point_total

pub dearer-order : StrictOrder Apart dearer
unfolding dearer
dearer-order = by-larger Apart (λ x. x.figures.cost) saved_before (by-larger Apart (λ x. x.figures.save) placed_before placed-order)

-- ---- the records of a task are in the order of the report

abbrev Placed : List Record → Type 0
Placed l = Pairs (λ x y. T (placed_before x y)) l

-- so they are of different points
placed-apart : (l : List Record) → Placed l → Pairs Apart l
placed-apart l p =
    pairs-by (λ x y. T (placed_before x y)) Apart l
    (λ x y m k h e d. ⊎_elim (λ (z : x.fn < y.fn). omega arith) (λ z. omega (arith, ltb→lt x.at y.at z.1))
    ((first_holds x.fn y.fn (ltb x.at y.at)).0 h)) p

module _ (s : Sheet) where
  points-placed : (f i n : ℕ) → Placed (map (record_at s f) (count_from i n))
  unfolding count_from
  points-placed f i zero = tt
  points-placed f i (suc n) = (
    λ y m.
        let r = mem-map (record_at s f) (count_from (suc i) n) m in
        rw r.2 ((first_holds f f (ltb i r.0)).1 (inr (refl, lt→ltb i r.0 (omega (arith, (mem-count_from (suc i) n).0 r.1))))),
    points-placed f (suc i) n,
  )

  module _ (t : Task) where
    -- each is the record of a point of the task
    record-in : (i n : ℕ) {x : Record} → Memᴰ x (joined (records_in t s) (count_from i n))
        → (f p : ℕ) × (i ≤ f) × (f < i + n) × (p < size (func t f)) × (x ≡ record_at s f p)
    unfolding records_in
    record-in i n m =
        let r = (mem-joined (records_in t s) (count_from i n)).0 m in
        let q = mem-map (record_at s r.0) (up_to (size (func t r.0))) r.2 in
        let b = (mem-count_from i n).0 r.1 in
        (r.0, q.0, b.0, b.1, (mem-up_to (size (func t r.0))).0 q.1, q.2)

    funcs-placed : (i n : ℕ) → Placed (joined (records_in t s) (count_from i n))
    unfolding joined count_from records_in
    funcs-placed i zero = tt
    funcs-placed i (suc n) =
        pairs-append (λ x y. T (placed_before x y)) (map (record_at s i) (up_to (size (func t i)))) _ (points-placed i 0 (size (func t i)))
        (funcs-placed (suc i) n)
        (λ x y m k.
        let a = mem-map (record_at s i) (up_to (size (func t i))) m in
        let b = record-in (suc i) n k in
        rw (a.2, b.5) ((first_holds i b.0 (ltb a.0 b.1)).1 (inl (omega (arith, b.2)))))

    pub records-placed : Pairs (λ x y. T (placed_before x y)) (records_of t s)
    unfolding records_of
    records-placed = funcs-placed 0 (count t)

    pub record_is : {x : Record} → Memᴰ x (records_of t s) → (f p : ℕ) × (f < count t) × (p < size (func t f)) × (x ≡ record_at s f p)
    unfolding records_of
    record_is m = let r = record-in 0 (count t) m in (r.0, r.1, omega (arith, r.3), r.4, r.5)

-- ---- the ten dearest points, for every task and every sheet

pub ten-dearest : (t : Task) (s : Sheet) → Firsts Apart dearer most_dearest (records_of t s) (dearest (records_of t s))
unfolding dearest
ten-dearest t s =
    firsts dearer-order (λ x y a e d. a (sym e) (sym d)) most_dearest (records_of t s) (placed-apart (records_of t s) (records-placed s t))
