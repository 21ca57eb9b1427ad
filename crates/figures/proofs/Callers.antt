-- The largest number over the points that call a function, worked out caller by caller.
use Rattle.std.specs.Prelude.{if◌then◌else◌}
use Prim.Native.Nat.{ℕ, zero, suc, ◌+◌, ◌≤◌, ◌<◌, max}
use native.Mathlib.Omega.{arith}
use native.Mathlib.Decide.{ℕ_discrete}
use native.Mathlib.Numerals.{add-one}
use mathlib.Core.Bool.{Bool, true, false}
use mathlib.Core.Logic.{◌⊎◌, inl, inr, ⊎_elim}
use mathlib.Core.Path.{◌≡◌, refl, ap, ◌∙◌}
use lib.Dec.{T}
use Rattle.model.specs.Task.{Func, Task, size, count, func}
use Rattle.model.specs.Walk.{Largest, calls}
use Rattle.model.specs.Figures.{over_calls}
use Rattle.theory.proofs.Lists.{by-test, largest-unique}
use Rattle.theory.proofs.Between.{CallsLater, over_calls-is, caller-before}
use Rattle.columns.specs.Values.{raised_by}
use Rattle.figures.specs.Steps.{so_far}

module _ (test : ℕ → Bool) (v : ℕ → ℕ) (m : ℕ) where
  raised-first : (n : ℕ) → m ≤ raised_by test v n m
  unfolding raised_by
  raised-first zero = omega arith
  raised-first (suc n) =
      let i = raised-first n in by-test (λ r. m ≤ r) (test n) (λ h. omega arith) (λ h. i)

  raised-above : (n p : ℕ) → p < n → T (test p) → v p ≤ raised_by test v n m
  unfolding raised_by
  raised-above zero p h k = absurd (omega arith)
  raised-above (suc n) p h k =
      elim (ℕ_discrete p n) [
        | yes e ↦ by_last (test n) (rw e at k) (omega (arith, ap v e))
        | no e ↦ let i = raised-above n p (omega arith) k in by-test (λ r. v p ≤ r) (test n) (λ h. omega arith) (λ h. i)
      ]
    where
      by_last : (t : Bool) → T t → v p ≤ v n → v p ≤ (if t then max (raised_by test v n m) (v n) else raised_by test v n m)
      by_last true k e = omega arith
      by_last false k e = absurd k

  raised-from : (n : ℕ) → (raised_by test v n m ≡ m) ⊎ ((p : ℕ) × (p < n) × T (test p) × (raised_by test v n m ≡ v p))
  unfolding raised_by
  raised-from zero = inl refl
  raised-from (suc n) = by_last (test n) refl (raised-from n)
    where
      by_last : (t : Bool) → test n ≡ t → (raised_by test v n m ≡ m) ⊎ ((p : ℕ) × (p < n) × T (test p) × (raised_by test v n m ≡ v p))
          → ((if t then max (raised_by test v n m) (v n) else raised_by test v n m) ≡ m)
          ⊎ ((p : ℕ) × (p < suc n) × T (test p) × ((if t then max (raised_by test v n m) (v n) else raised_by test v n m) ≡ v p))
      by_last false e i = ⊎_elim (λ r. inl r) (λ r. inr (r.0, omega arith, r.2, r.3)) i
      by_last true e i =
          elim (ℕ_discrete (max (raised_by test v n m) (v n)) (v n)) [
            | yes d ↦ inr (n, omega arith, rw e tt, d)
            | no d ↦
                ⊎_elim (λ r. inl (omega arith)) (λ r. inr (r.0, omega arith, r.2, omega (arith, r.3))) i
          ]

-- numbers that agree where the test holds raise alike
raised-same : (test : ℕ → Bool) (v v' : ℕ → ℕ) (n m : ℕ) → ((p : ℕ) → p < n → T (test p) → v p ≡ v' p)
    → raised_by test v n m ≡ raised_by test v' n m
unfolding raised_by
raised-same test v v' zero m e = refl
raised-same test v v' (suc n) m e =
    by_last (test n) (λ k. e n (omega arith) k) (raised-same test v v' n m (λ p h k. e p (omega arith) k))
  where
    by_last : (t : Bool) → (T t → v n ≡ v' n) → raised_by test v n m ≡ raised_by test v' n m
        → (if t then max (raised_by test v n m) (v n) else raised_by test v n m)
        ≡ (if t then max (raised_by test v' n m) (v' n) else raised_by test v' n m)
    by_last true e i = omega (arith, e tt, i)
    by_last false e i = i

-- after one caller more
pub so_far_more : (t : Task) (figure : ℕ → ℕ → ℕ) (f g : ℕ) {x : Func} {v : ℕ → ℕ} {n m : ℕ} → func t f ≡ x → n ≡ size x
    → m ≡ so_far t figure f g → ((p : ℕ) → p < n → T (calls x g p) → v p ≡ figure f p)
    → raised_by (calls x g) v n m ≡ so_far t figure (f + 1) g
unfolding so_far
so_far_more t figure f g {x} {v} {n} {m} e z i same =
    rw (add-one f, e, ← z, ← i) (raised-same (calls x g) v (figure f) n m same)

module _ (t : Task) (figure : ℕ → ℕ → ℕ) (g : ℕ) where
  so-far-is : (n : ℕ)
      → Largest (λ m. (h p : ℕ) × (h < n) × (p < size (func t h)) × T (calls (func t h) g p) × (m ≡ figure h p)) (so_far t figure n g)
  unfolding so_far
  so-far-is zero = record { bounds = λ m k. absurd (omega (arith, k.2)); attained = λ h. absurd (omega arith) }
  so-far-is (suc n) =
      let i = so-far-is n in
      record {
        bounds = λ m k.
            elim (ℕ_discrete k.0 n) [
              | yes e ↦
                  let r = raised-above (calls (func t n) g) (figure n) (so_far t figure n g) (size (func t n)) k.1 (rw e at k.3) (rw e at k.4) in
                  omega (arith, rw e at k.5, r)
              | no e ↦
                  omega (
                    arith,
                    i.bounds m (k.0, k.1, omega (arith, k.2), k.3, k.4, k.5),
                    raised-first (calls (func t n) g) (figure n) (so_far t figure n g) (size (func t n)),
                  )
            ];
        attained = λ h.
            ⊎_elim
            (λ r. let a = i.attained (omega (arith, r)) in (a.0, a.1, omega (arith, a.2), a.3, a.4, r ∙ a.5))
            (λ r. (n, r.0, omega arith, r.1, r.2, r.3))
            (raised-from (calls (func t n) g) (figure n) (so_far t figure n g) (size (func t n)));
      }

  -- all callers of g are before it
  pub so-far-all : CallsLater t → (n : ℕ) → g ≤ n → n ≤ count t → so_far t figure n g ≡ over_calls t g figure
  so-far-all later n h k =
      largest-unique
      (record {
        bounds = λ m c.
            (so-far-is n).bounds m (c.0, c.1, omega (arith, caller-before t later g c.0 c.1 c.2 c.3 c.4), c.3, c.4, c.5);
        attained = λ l. let a = (so-far-is n).attained l in (a.0, a.1, omega (arith, a.2), a.3, a.4, a.5);
      })
      (over_calls-is t g figure)

-- before any caller
pub so-far-none : (t : Task) (figure : ℕ → ℕ → ℕ) (g : ℕ) → so_far t figure 0 g ≡ 0
unfolding so_far
so-far-none t figure g = refl
