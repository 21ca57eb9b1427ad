-- d by levels: the lowest level that no call passes on some walk to a return is the level of the smallest, over such walks, of the largest d called.
use Prim.Native.Nat.{ℕ, ◌-◌, ◌≤◌, ◌<◌}
use native.Mathlib.Omega.{arith}
use native.Mathlib.Decide.{dec_lt}
use mathlib.Core.List.{List}
use mathlib.Core.Option.{Option, none, some}
use mathlib.Core.Path.{◌≡◌, refl}
use lib.Dec.{T, leb, ltb, leb→le, le→leb, ltb→lt, lt→ltb}
use Rattle.model.specs.Basic.{select, count_from}
use Rattle.model.specs.Task.{Func, size, point}
use Rattle.model.specs.Walk.{Met, Smallest, leads, called, present, is_call, returns, never}
use Rattle.model.specs.Figures.{displacement_at, calls_above, minimax}
use Rattle.theory.proofs.Lists.{and-holds, by-largest, largest-bounds, mem-select, mem-count_from}
use Rattle.theory.proofs.Walks.{walk-wider}
use Rattle.theory.proofs.Figures.{Closed, lowest-met}
use Rattle.theory.proofs.Displacement.{minimax-low, minimax-met}
use Rattle.bits.specs.Bits.{set_bits}
use Rattle.tables.specs.Tables.{item}
use Rattle.problems.specs.Problems.{calls_over, lowest_level}
use Rattle.levels.specs.Levels.{level_among, largest_within}
use Rattle.levels.proofs.Laws.{level-some, level-rises, level-low}

module _
    (d : ℕ → ℕ)
    (x : Func)
    (inside : Closed x)
    (z : 0 < size x)
    (m n : ℕ)
    (few : n - m < set_bits)
    (column : List ℕ)
    (at_calls : (p g : ℕ) → called (point x p) ≡ some g → (m ≤ g) × (g < n) × (item column p ≡ level_among d m n (d g))) where
  abbrev level : ℕ → ℕ
  level g = level_among d m n (d g)

  -- a call is over v where the level of its callee is
  over-is : (v p : ℕ) → T (calls_over x column v p) → (g : ℕ) × (called (point x p) ≡ some g) × (v < level g)
  over-is v p h =
      let b = (and-holds (is_call x p) (ltb v (item column p))).0 h in
      at (called (point x p)) refl b.0 (ltb→lt v (item column p) b.1)
    where
      at : (c : Option ℕ) → called (point x p) ≡ c → T (present c) → v < item column p → (g : ℕ) × (called (point x p) ≡ some g) × (v < level g)
      at none e k l = absurd k
      at (some g) e k l = (g, e, omega (arith, (at_calls p g e).2))

  over-not : (v p g : ℕ) → called (point x p) ≡ some g → v < level g → T (calls_over x column v p)
  over-not v p g e l =
      (and-holds (is_call x p) (ltb v (item column p))).1 (rw e tt, lt→ltb v (item column p) (omega (arith, (at_calls p g e).2)))

  lowest-is : Smallest (λ v. Met (leads x) (calls_over x column v) (returns x) 0) set_bits (lowest_level x column)
  unfolding lowest_level
  lowest-is = lowest-met x inside (calls_over x column) (λ v. returns x) 0 z set_bits

  -- a level is found exactly where a walk comes to a return
  pub level-met : lowest_level x column < set_bits → Met (leads x) never (returns x) 0
  level-met h = let w = lowest-is.attained h in (w.0, walk-wider (λ p b. absurd b) w.1, w.2)

  pub met-level : Met (leads x) never (returns x) 0 → lowest_level x column < set_bits
  met-level w =
      let top = set_bits - 1 in
      let none_over : (p : ℕ) → T (calls_over x column top p) → T (never p) =
      λ p b. let k = over-is top p b in let c = at_calls p k.0 k.1 in
      absurd (omega (arith, k.2, few, level-low d c.0 c.1)) in
      omega (arith, lowest-is.bounds top (omega arith) (w.0, walk-wider none_over w.1, w.2))

  -- the largest d up to that level
  abbrev within : ℕ
  within = largest_within level d m n (lowest_level x column)

  within-bounds : (g : ℕ) → m ≤ g → g < n → level g ≤ lowest_level x column → d g ≤ within
  unfolding largest_within
  within-bounds g a b c =
      largest-bounds d ((mem-select (λ g. leb (level g) (lowest_level x column)) (count_from m (n - m))).1
      ((mem-count_from m (n - m)).1 (a, omega arith), le→leb (level g) (lowest_level x column) c))

  -- each walk up to that level calls no more
  minimax-most : lowest_level x column < set_bits → minimax d x (returns x) ≤ within
  minimax-most h =
      let w = lowest-is.attained h in
      minimax-low d x inside z (returns x) within (w.0, walk-wider (λ p b. at p (called (point x p)) refl (ltb→lt within _ b)) w.1, w.2)
    where
      at : (p : ℕ) (c : Option ℕ) → called (point x p) ≡ c → within < displacement_at d x p → T (calls_over x column (lowest_level x column) p)
      at p none e l = absurd (omega (arith, rw e at l))
      at p (some g) e l =
          let c = at_calls p g e in
          elim (dec_lt (lowest_level x column) (level g)) [
            | yes k ↦ over-not (lowest_level x column) p g e k
            | no k ↦ absurd (omega (arith, rw e at l, within-bounds g c.0 c.1 (omega arith)))
          ]

  -- a walk that calls less would stay below that level
  minimax-least : lowest_level x column < set_bits → within ≤ minimax d x (returns x)
  unfolding largest_within
  minimax-least h =
      by-largest d (λ v. v ≤ minimax d x (returns x)) (select (λ g. leb (level g) (lowest_level x column)) (count_from m (n - m))) (omega arith)
      (λ g i.
      let s = (mem-select (λ g. leb (level g) (lowest_level x column)) (count_from m (n - m))).0 i in
      let r = (mem-count_from m (n - m)).0 s.0 in
      under g r.0 (omega (arith, r.1)) (leb→le (level g) (lowest_level x column) s.1))
    where
      higher : (g c : ℕ) → minimax d x (returns x) < d g → level g - 1 < level c → m ≤ c → c < n → minimax d x (returns x) < d c
      higher g c k l a b = elim (dec_lt (d c) (d g)) [ yes q ↦ absurd (omega (arith, l, level-rises d a b g q)) | no q ↦ omega (arith, k) ]

      calls-above : (p c : ℕ) → called (point x p) ≡ some c → minimax d x (returns x) < d c → T (calls_above d x (minimax d x (returns x)) p)
      calls-above p c e l = rw e (lt→ltb (minimax d x (returns x)) (d c) l)

      under : (g : ℕ) → m ≤ g → g < n → level g ≤ lowest_level x column → d g ≤ minimax d x (returns x)
      under g a b l =
          elim (dec_lt (minimax d x (returns x)) (d g)) [
            | yes k ↦
                let w = minimax-met d x inside z (returns x) (level-met h) in
                let v = level g - 1 in
                let above : (p : ℕ) → T (calls_over x column v p) → T (calls_above d x (minimax d x (returns x)) p) =
                λ p o.
                let c = over-is v p o in
                let i = at_calls p c.0 c.1 in
                calls-above p c.0 c.1 (higher g c.0 k c.2 i.0 i.1) in
                absurd (omega (arith, l, level-some d n (d g) m, lowest-is.bounds v (omega (arith, l, h)) (w.0, walk-wider above w.1, w.2)))
            | no k ↦ omega arith
          ]

  pub minimax-is : lowest_level x column < set_bits → minimax d x (returns x) ≡ within
  minimax-is h = omega (arith, minimax-most h, minimax-least h)
