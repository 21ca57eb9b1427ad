-- The computed `arrival` is the largest value with which a walk comes to a point: twice as many rounds as there are points are
-- enough for walks of every length. For each threshold t a row of three levels (no walk, at most t, above t) stands still by then.
use Rattle.std.specs.Prelude.{if◌then◌else◌}
use Prim.Native.Nat.{ℕ, zero, suc, pred, ◌+◌, ◌-◌, ◌*◌, ◌≤◌, ◌<◌, zero-le, min, max}
use mathlib.Core.Bool.{Bool, true, false}
use mathlib.Core.List.Memᴰ
use mathlib.Core.List.{List, Memᴰ}
use mathlib.Core.Logic.{◌↔◌}
use mathlib.Core.Path.{◌≡◌, refl, sym}
use native.Mathlib.Decide.{dec_lt}
use native.Mathlib.Nat.{le-max_left, le-max_right, le_trans}
use native.Mathlib.Omega.{arith}
use lib.Dec.{eqb, eqb→eq, eqb_refl}
use Rattle.model.specs.Basic.{any, up_to}
use Rattle.model.specs.Walk.{Carries, Largest, arrival, carried, sources}
use Rattle.theory.proofs.Lists.{by-test, by-max, by-largest, any-holds, mem-select, mem-up_to, largest-bounds}
use Rattle.theory.proofs.Walks.{Still, rounds-still}

-- 0 for no walk, 1 for a value of at most t, 2 for a value above t
level : ℕ → ℕ → ℕ
level t v = min v 1 + min (v - suc t) 1

level-low : (t v : ℕ) → level t v ≤ 2
unfolding level
level-low t v = omega arith

level-mono : (t : ℕ) {v w : ℕ} → v ≤ w → level t v ≤ level t w
unfolding level
level-mono t h = omega arith

level-up : (t h k : ℕ) → (t < h → t < k) → level t (suc h) ≤ level t (suc k)
unfolding level
level-up t h k f = elim (dec_lt t h) [ yes l ↦ omega (arith, f l) | no l ↦ omega arith ]

level-down : (t h k : ℕ) → level t (suc h) ≤ level t (suc k) → t < h → t < k
unfolding level
level-down t h k l = omega arith

level-none : (t h : ℕ) → level t (suc h) ≤ level t 0 → ⊥
unfolding level
level-none t h l = omega arith

-- what is no higher at any threshold is no larger
level_all : (v w : ℕ) → ((t : ℕ) → level t v ≤ level t w) → v ≤ w
unfolding level
level_all v zero f = omega (arith, f 0)
level_all v (suc w) f = omega (arith, f w)

-- a threshold of the result depends on the same threshold of the argument only
abbrev pub Steady : (ℕ → ℕ) → Type 0
Steady g = (t h h' : ℕ) → (t < h → t < h') → t < g h → t < g h'

-- a value that is handed on
pub steady-same : Steady (λ h. h)
steady-same t h h' f = f

-- one that is cut to a bound
pub steady-min : (c : ℕ) → Steady (λ h. min h c)
steady-min c t h h' f l = omega (arith, f (omega arith))

-- one that is raised to a bound
pub steady-max : (c : ℕ) → Steady (λ h. max h c)
steady-max c t h h' f l = elim (dec_lt t h) [ yes m ↦ omega (arith, f m) | no m ↦ omega arith ]

-- one of two, by a test
pub steady-if : (b : Bool) {g g' : ℕ → ℕ} → Steady g → Steady g' → Steady (λ h. if b then g h else g' h)
steady-if true s s' = s
steady-if false s s' = s'

-- a larger argument gives no smaller result
pub steady-mono : {g : ℕ → ℕ} → Steady g → {h h' : ℕ} → h ≤ h' → g h ≤ g h'
steady-mono {g} s {h} {h'} l =
    elim (dec_lt (g h') (g h)) [ yes k ↦ absurd (omega (arith, s (g h') h h' (omega arith) k)) | no k ↦ omega arith ]

carried-cases : (g : ℕ → ℕ) (v h : ℕ) → carried g v ≡ suc h → (k : ℕ) × (v ≡ suc k) × (h ≡ g k)
carried-cases g zero h e = absurd (omega arith)
carried-cases g (suc k) h e = (k, refl, omega arith)

-- a point that brings no more
carried-less : {g g' : ℕ → ℕ} → ((h k : ℕ) → h ≤ k → g h ≤ g' k) → {v w : ℕ} → v ≤ w → carried g v ≤ carried g' w
carried-less f {v = zero} l = omega arith
carried-less f {v = suc h} {w = zero} l = omega arith
carried-less f {v = suc h} {w = suc k} l = omega (arith, f h k (omega arith))

-- the points below N that lead to p
pub mem-sources : (next : ℕ → List ℕ) (N : ℕ) {p q : ℕ}
    → Memᴰ q (sources next N p) ↔ ((q < N) × Memᴰ p (next q))
unfolding sources
mem-sources next N {p} {q} =
    let chosen = mem-select (λ q. any (λ r. eqb r p) (next q)) (up_to N) {a = q} in
    let leading = any-holds (λ r. eqb r p) (next q) in (
      λ m. let a = leading.0 (chosen.0 m).1 in
          ((mem-up_to N).0 (chosen.0 m).0, Memᴰ.cast (sym (eqb→eq a.0 p a.2)) a.1),
      λ m. chosen.1 ((mem-up_to N).1 m.0, leading.1 (p, m.1, eqb_refl p)),
    )

module _ (next : ℕ → List ℕ) (after : ℕ → ℕ → ℕ) (first N : ℕ) where
  -- what holds of each value that a round brings to p holds of the largest
  by-arrival : (P : ℕ → Type 0) (n p : ℕ) → P 0 → (p ≡ 0 → P (suc first))
      → ((q : ℕ) → q < N → Memᴰ p (next q) → P (carried (after q) (arrival next after first N n q)))
      → P (arrival next after first N (suc n) p)
  unfolding arrival
  by-arrival P n p z e s =
      by-max P _ _ (by-test P (eqb p 0) (λ t. e (eqb→eq p 0 t)) (λ t. z))
      (by-largest _ P (sources next N p) z (λ q m. let r = (mem-sources next N).0 m in s q r.0 r.1))

  enter-below : (n : ℕ) → suc first ≤ arrival next after first N (suc n) 0
  unfolding arrival
  enter-below n = le-max_left _ _

  step-below : (n : ℕ) {p q : ℕ} → q < N → Memᴰ p (next q)
      → carried (after q) (arrival next after first N n q) ≤ arrival next after first N (suc n) p
  unfolding arrival
  step-below n l m = le_trans (largest-bounds _ ((mem-sources next N).1 (l, m))) (le-max_right _ _)

  -- what the number says is so
  pub arrival-sound : (n p h : ℕ) → arrival next after first N n p ≡ suc h → Carries next after first p h
  unfolding arrival
  arrival-sound zero p h e = absurd (omega arith)
  arrival-sound (suc n) p h e =
      by-arrival (λ v. v ≡ suc h → Carries next after first p h) n p (λ z. absurd (omega arith))
      (λ z e. let k : h ≡ first = omega arith in rw (z, k) Carries.enter)
      (λ q l m e. let r = carried-cases (after q) (arrival next after first N n q) h e in
      rw r.2 (Carries.step (arrival-sound n q r.0 r.1) m))
      e

  -- a walk from point 0 stays among the first N points
  pub carries-inside : ((p q : ℕ) → p < N → Memᴰ q (next p) → q < N) → 0 < N → {p h : ℕ} → Carries next after first p h → p < N
  carries-inside inside l Carries.enter = l
  carries-inside inside l (Carries.step c m) = inside _ _ (carries-inside inside l c) m

  module _ (steady : (q : ℕ) → Steady (after q)) where
    carried-mono : (q : ℕ) {v w : ℕ} → v ≤ w → carried (after q) v ≤ carried (after q) w
    carried-mono q = carried-less (λ h k. steady-mono (steady q))

    carried-level : (t q v w : ℕ) → level t v ≤ level t w → level t (carried (after q) v) ≤ level t (carried (after q) w)
    carried-level t q zero w l = level-mono t (omega arith)
    carried-level t q (suc h) zero l = absurd (level-none t h l)
    carried-level t q (suc h) (suc k) l = level-up t (after q h) (after q k) (steady q t h k (level-down t h k l))

    arrival-more : (n p : ℕ) → arrival next after first N n p ≤ arrival next after first N (suc n) p
    unfolding arrival
    arrival-more zero p = zero-le
    arrival-more (suc n) p =
        by-arrival (λ v. v ≤ arrival next after first N (suc (suc n)) p) n p (omega arith) (λ z. rw z (enter-below (suc n)))
        (λ q l m. le_trans (carried-mono q (arrival-more n q)) (step-below (suc n) l m))

    level-stays : (t n : ℕ) → Still (λ n p. level t (arrival next after first N n p)) N n
        → Still (λ n p. level t (arrival next after first N n p)) N (suc n)
    level-stays t n s p h =
        by-arrival (λ v. level t v ≤ level t (arrival next after first N (suc n) p)) (suc n) p (level-mono t (omega arith))
        (λ z. level-mono t (rw z (enter-below n)))
        (λ q l m. le_trans (carried-level t q _ _ (s q l)) (level-mono t (step-below n l m)))

    enough : (p : ℕ) → p < N → arrival next after first N (suc (2 * N)) p ≤ arrival next after first N (2 * N) p
    enough p l =
        level_all _ _ (λ t. rounds-still N 2 (λ n q. level t (arrival next after first N n q)) (λ n q h. level-low t _)
        (λ n q h. level-mono t (arrival-more n q)) (level-stays t) (2 * N) (omega arith) p l)

    module _ (inside : (p q : ℕ) → p < N → Memᴰ q (next p) → q < N) (some-point : 0 < N) where
      -- a table that no round raises bounds what the walks of every length bring
      pub carries-below : (v : ℕ → ℕ) → suc first ≤ v 0
          → ((p q : ℕ) → p < N → Memᴰ q (next p) → carried (after p) (v p) ≤ v q)
          → {p h : ℕ} → Carries next after first p h → suc h ≤ v p
      carries-below v e s Carries.enter = e
      carries-below v e s (Carries.step {p = p} {q = q} {h = h} c m) =
          le_trans (carried-mono p {v = suc h} (carries-below v e s c)) (s p q (carries-inside inside some-point c) m)

      -- no walk of any length brings more than the number that 2 * N rounds find
      pub arrival-complete : {p h : ℕ} → Carries next after first p h → suc h ≤ arrival next after first N (2 * N) p
      arrival-complete =
          carries-below (arrival next after first N (2 * N)) (le_trans (enter-below (2 * N)) (enough 0 some-point))
          (λ p q l m. le_trans (step-below (2 * N) l m) (enough q (inside p q l m)))

      -- the number is the largest of those that stand for a value that a walk brings
      pub arrival-largest : (p : ℕ)
          → Largest (λ m. (h : ℕ) × (m ≡ suc h) × Carries next after first p h) (arrival next after first N (2 * N) p)
      arrival-largest p = record {
        bounds = λ m k. omega (arith, arrival-complete k.2);
        attained = λ l. (pred (arrival next after first N (2 * N) p), omega arith, arrival-sound (2 * N) p _ (omega arith));
      }

      -- where some walk comes, the largest value is brought and bounds the others
      pub arrival-reached : {p h : ℕ} → Carries next after first p h
          → ((k : ℕ) → Carries next after first p k → k ≤ pred (arrival next after first N (2 * N) p))
          × Carries next after first p (pred (arrival next after first N (2 * N) p))
      arrival-reached {p} c = (λ k d. omega (arith, arrival-complete d), arrival-sound (2 * N) p _ (omega (arith, arrival-complete c)))

-- where the walk starts with no more and every point brings no more, no more arrives
pub arrival-less : (next : ℕ → List ℕ) {after after' : ℕ → ℕ → ℕ} {first first' : ℕ} (N : ℕ) → first ≤ first'
    → ((q h k : ℕ) → h ≤ k → after q h ≤ after' q k) → (n p : ℕ) → arrival next after first N n p ≤ arrival next after' first' N n p
unfolding arrival
arrival-less next N i less zero p = zero-le
arrival-less next {after} {after'} {first} {first'} N i less (suc n) p =
    by-arrival next after first N (λ v. v ≤ arrival next after' first' N (suc n) p) n p (omega arith)
    (λ z. rw z (le_trans (omega arith) (enter-below next after' first' N n)))
    (λ q l m. le_trans (carried-less (less q) (arrival-less next N i less n q)) (step-below next after' first' N n l m))
