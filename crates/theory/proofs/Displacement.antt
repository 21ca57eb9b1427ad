-- The shortest displacement d: the computed `minimax` is the smallest, over walks of every length, of the largest d called, and d satisfies its equation.
use Prim.Native.Nat.{ℕ, zero, suc, ◌+◌, ◌≤◌, ◌<◌}
use mathlib.Core.Bool.{Bool}
use mathlib.Core.List.{Memᴰ}
use mathlib.Core.Option.{Option, none, some}
use mathlib.Core.Path.{◌≡◌, refl, sym}
use native.Mathlib.Decide.{dec_lt}
use native.Mathlib.Omega.{arith}
use lib.Dec.{T, ltb, T_not, not_T, ltb→lt, nltb→le}
use Rattle.model.specs.Basic.{largest, smallest, lowest}
use Rattle.model.specs.Task.{Func, Task, size, count, func, point}
use Rattle.model.specs.Walk.{Walk, Met, Carries, Smallest, Least, leads, called, returns, never, some_walk}
use Rattle.model.specs.Figures.{callees, displacement_of, displacement_at, calls_above, minimax, shortest_by, shortest_to, shortest}
use Rattle.theory.specs.Displacement.{LargestCalled, CalledToReturn}
use Rattle.theory.proofs.Lists.{by-test, lowest-smallest, largest-bounds}
use Rattle.theory.proofs.Walks.{walk-trans, walk-wider}
use Rattle.theory.proofs.Links.{is-holds, present-holds, call-inside}
use Rattle.theory.proofs.Figures.{Closed, some_walk-met, lowest-met}
use Rattle.theory.proofs.Between.{CallsLater, largest-cong, smallest-cong, mem-callees}

-- a point that calls g is one of those that x calls
pub call-member : (x : Func) (p : ℕ) {g : ℕ} → called (point x p) ≡ some g → Memᴰ g (callees x)
call-member x p {g} e =
    (mem-callees x).1 (p, call-inside x p ((present-holds (called (point x p))).1 (g, e)), (is-holds g (called (point x p))).1 e)

-- what is so of 0, and of d of each function that x calls, is so of the displacement at a point of x
pub by-displacement : (P : ℕ → Type 0) (d : ℕ → ℕ) (x : Func) → P 0 → ((g : ℕ) → Memᴰ g (callees x) → P (d g)) → (p : ℕ) → P (displacement_at d x p)
by-displacement P d x z e p = at (called (point x p)) refl
  where
    at : (c : Option ℕ) → called (point x p) ≡ c → P (displacement_of d c)
    at none i = z
    at (some g) i = e g (call-member x p i)

pub displacement-within : (d : ℕ → ℕ) (x : Func) (p : ℕ) → displacement_at d x p ≤ largest d (callees x)
displacement-within d x = by-displacement (λ m. m ≤ largest d (callees x)) d x (omega arith) (λ g m. largest-bounds d m)

-- d of a function depends on d of its callees only
module _ (x : Func) {d e : ℕ → ℕ} (same : (g : ℕ) → Memᴰ g (callees x) → d g ≡ e g) where
  displacement-cong : (p : ℕ) → displacement_at d x p ≡ displacement_at e x p
  displacement-cong p = at (called (point x p)) refl
    where
      at : (c : Option ℕ) → called (point x p) ≡ c → displacement_of d c ≡ displacement_of e c
      at none i = refl
      at (some g) i = same g (call-member x p i)

  minimax-cong : (goal : ℕ → Bool) → minimax d x goal ≡ minimax e x goal
  unfolding minimax
  minimax-cong goal = λ i.
      lowest (λ v. some_walk x (λ p. ltb v (displacement-cong p i)) goal 0) (largest-cong (callees x) same i)

  shortest_by-cong : shortest_by d x ≡ shortest_by e x
  unfolding shortest_by
  shortest_by-cong = rw (minimax-cong (returns x), smallest-cong (callees x) same)

module _ (d : ℕ → ℕ) (x : Func) where
  -- no more than the largest d called
  pub minimax-within : (goal : ℕ → Bool) → minimax d x goal ≤ largest d (callees x)
  unfolding minimax
  minimax-within goal = (lowest-smallest (λ v. some_walk x (calls_above d x v) goal 0) (largest d (callees x))).within

  -- a walk whose largest call is v at most calls nothing above v, and the other way round
  called-walk : (v : ℕ) {p u : ℕ} → LargestCalled d x p u → u ≤ v → Walk (leads x) (calls_above d x v) 0 p
  called-walk v Carries.enter l = Walk.here
  called-walk v (Carries.step {p = p} c m) l =
      walk-trans (called-walk v c (omega (arith, l)))
      (Walk.step (not_T (calls_above d x v p) (λ b. omega (arith, ltb→lt v (displacement_at d x p) b, l))) m Walk.here)

  walk-called : (v : ℕ) {p q u : ℕ} → Walk (leads x) (calls_above d x v) p q → LargestCalled d x p u → u ≤ v
      → (k : ℕ) × LargestCalled d x q k × (k ≤ v)
  walk-called v {u = u} Walk.here c l = (u, c, l)
  walk-called v (Walk.step {p = p} s m w) c l = walk-called v w (Carries.step c m) (omega (arith, nltb→le v (displacement_at d x p) s, l))

  module _ (inside : Closed x) (z : 0 < size x) (goal : ℕ → Bool) where
    minimax-is : Smallest (λ v. Met (leads x) (calls_above d x v) goal 0) (largest d (callees x)) (minimax d x goal)
    unfolding minimax
    minimax-is = lowest-met x inside (calls_above d x) (λ v. goal) 0 z (largest d (callees x))

    -- no walk has all its calls below the minimax
    pub minimax-low : (v : ℕ) → Met (leads x) (calls_above d x v) goal 0 → minimax d x goal ≤ v
    minimax-low v m =
        elim (dec_lt v (largest d (callees x))) [ yes l ↦ minimax-is.bounds v l m | no l ↦ omega (arith, minimax-within goal) ]

    -- some walk calls nothing above it, where there is a walk
    pub minimax-met : Met (leads x) never goal 0 → Met (leads x) (calls_above d x (minimax d x goal)) goal 0
    minimax-met m =
        elim (dec_lt (minimax d x goal) (largest d (callees x))) [
          | yes l ↦ minimax-is.attained l
          | no l ↦
              let most : (p : ℕ) → T (calls_above d x (minimax d x goal) p) → T (never p) =
              λ p b. absurd (omega (arith, l, ltb→lt _ (displacement_at d x p) b, displacement-within d x p)) in
              (m.0, walk-wider most m.1, m.2)
        ]

  -- over the walks of every length from point 0 to a return: none calls less at most, and one attains it
  pub minimax-least : Closed x → 0 < size x → Met (leads x) never (returns x) 0 → Least (CalledToReturn d x) (minimax d x (returns x))
  minimax-least inside z m =
      let low : (v : ℕ) → CalledToReturn d x v → minimax d x (returns x) ≤ v =
      λ v r. minimax-low inside z (returns x) v (r.0, called-walk v r.1 (omega arith), r.2) in
      let w = minimax-met inside z (returns x) m in
      let r = walk-called (minimax d x (returns x)) w.1 Carries.enter (omega arith) in
      let e : minimax d x (returns x) ≡ r.0 = omega (arith, r.2, low r.0 (w.0, r.1, w.2)) in
      record { bounds = low; attained = rw e (w.0, r.1, w.2) }

module _ (t : Task) (later : CallsLater t) where
  shortest-more : (n f : ℕ) → f < count t → count t ≤ n + f → shortest_to t (suc n) f ≡ shortest_to t n f
  unfolding shortest_to
  shortest-more zero f l k = absurd (omega arith)
  shortest-more (suc n) f l k =
      shortest_by-cong (func t f) (λ g m. let r = later f g l m in shortest-more n g r.1 (omega arith))

  -- d satisfies its equation: as many rounds as there are functions are enough
  pub shortest-is : (f : ℕ) → f < count t → shortest t f ≡ shortest_by (shortest t) (func t f)
  unfolding shortest shortest_to
  shortest-is f l = sym (shortest-more (count t) f l (omega arith))

-- d by whether a walk comes to a return
module _ (d : ℕ → ℕ) (x : Func) (inside : Closed x) (z : 0 < size x) where
  pub by-return : (P : ℕ → Type 0) → (Met (leads x) never (returns x) 0 → P (x.frame + minimax d x (returns x)))
      → ((Met (leads x) never (returns x) 0 → ⊥) → P (x.frame + smallest d (callees x))) → P (shortest_by d x)
  unfolding shortest_by
  by-return P a b =
      let met = some_walk-met x inside never (returns x) 0 z in
      by-test (λ m. P (x.frame + m)) (some_walk x never (returns x) 0) (λ h. a (met.0 h))
      (λ h. b (λ m. T_not (some_walk x never (returns x) 0) h (met.1 m)))

  pub shortest-met : Met (leads x) never (returns x) 0 → shortest_by d x ≡ x.frame + minimax d x (returns x)
  shortest-met m = by-return (λ n. n ≡ x.frame + minimax d x (returns x)) (λ _. refl) (λ n. absurd (n m))

  pub shortest-none : (Met (leads x) never (returns x) 0 → ⊥) → shortest_by d x ≡ x.frame + smallest d (callees x)
  shortest-none n = by-return (λ m. m ≡ x.frame + smallest d (callees x)) (λ m. absurd (n m)) (λ _. refl)
