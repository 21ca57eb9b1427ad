-- Laws of the first answer that a row, a list or a task gives: when there is none, and which it is.
use Prim.Native.Nat.{ℕ, zero, suc, ◌+◌, ◌≤◌, ◌<◌}
use mathlib.Core.Bool.{Bool, true, false, not}
use mathlib.Core.List.Memᴰ
use mathlib.Core.List.{List, [], ◌∷◌, Memᴰ}
use mathlib.Core.Logic.{◌↔◌, ⊎_elim}
use mathlib.Core.Option.{Option, none, some}
use mathlib.Core.Path.{◌≡◌, refl, ap, ◌∙◌}
use native.Mathlib.Nat.{suc-add, add-suc, zero-add, add-zero}
use native.Mathlib.Omega.{arith}
use lib.Dec.{T}
use Rattle.model.specs.declared.Refusal.{Refusal}
use Rattle.model.specs.Basic.{unless, ◌or_else◌, first_of, count_from, up_to}
use Rattle.model.specs.Task.{Task, size, count, func}
use Rattle.model.specs.Refusal.{first_point}
use Rattle.theory.proofs.Lists.{mem-count_from, mem-up_to}

module _ {ℓ} {B : Type ℓ} where
  -- two answers give none where neither is one
  pub or_else-none : (a b : Option B) → ((a or_else b) ≡ none) ↔ ((a ≡ none) × (b ≡ none))
  or_else-none none b = (λ e. (refl, e), λ e. e.1)
  or_else-none (some x) b = (λ e. (e, cc), λ e. e.0)

  -- a test gives no answer where it holds
  pub unless-none : (t : Bool) (a : B) → (unless t a ≡ none) ↔ T t
  unless-none true a = (λ e. tt, λ h. refl)
  unless-none false a = (λ e. let z : ◌≡◌ {A = ℕ} 0 1 = cc in absurd (omega arith), absurd)

  -- a test before another answer
  pub row-none : (t : Bool) (a : B) (b : Option B) → ((unless t a or_else b) ≡ none) ↔ (T t × (b ≡ none))
  row-none true a b = (λ e. (tt, e), λ h. h.1)
  row-none false a b = (λ e. let z : ◌≡◌ {A = ℕ} 0 1 = cc in absurd (omega arith), λ h. absurd h.0)

  -- a list gives no answer where no member does
  pub first-none : {A : Type 0} (g : A → Option B) (l : List A) → (first_of g l ≡ none) ↔ ((a : A) → Memᴰ a l → g a ≡ none)
  unfolding first_of
  first-none g [] = (λ e a m. absurd (Memᴰ.not-nil m), λ h. refl)
  first-none g (b ∷ l) = (
    λ e a m. let r = (or_else-none (g b) (first_of g l)).0 e in ⊎_elim (λ k. ap g k ∙ r.0) (λ k. (first-none g l).0 r.1 a k) (Memᴰ.cases_cons m),
    λ h. (or_else-none (g b) (first_of g l)).1 (h b (Memᴰ.head refl), (first-none g l).1 (λ a m. h a (Memᴰ.tail m))),
  )

  module _ (g : ℕ → Option B) where
    -- the numbers i, i + 1, .., n of them, give no answer where none of them does
    pub counted_none : (i n : ℕ) → (first_of g (count_from i n) ≡ none) ↔ ((j : ℕ) → i ≤ j → j < i + n → g j ≡ none)
    counted_none i n = (
      λ e j h k. (first-none g (count_from i n)).0 e j ((mem-count_from i n).1 (h, k)),
      λ h. (first-none g (count_from i n)).1 (λ j m. let r = (mem-count_from i n).0 m in h j r.0 r.1),
    )

    -- the numbers below n give no answer where none of them does
    pub below_none : (n : ℕ) → (first_of g (up_to n) ≡ none) ↔ ((j : ℕ) → j < n → g j ≡ none)
    below_none n = (
      λ e j h. (first-none g (up_to n)).0 e j ((mem-up_to n).1 h),
      λ h. (first-none g (up_to n)).1 (λ j m. h j ((mem-up_to n).0 m)),
    )

    -- no number gives no answer
    pub counted-zero : (i : ℕ) → first_of g (count_from i zero) ≡ none
    unfolding first_of count_from
    counted-zero i = refl

    -- the first number is asked first
    pub counted_step : (i n : ℕ) → first_of g (count_from i (suc n)) ≡ (g i or_else first_of g (count_from (suc i) n))
    unfolding first_of count_from
    counted_step i n = refl

    -- numbers that give no answer can be left out
    pub counted-past : (i m n : ℕ) → ((j : ℕ) → i ≤ j → j < i + m → g j ≡ none) → first_of g (count_from i (m + n)) ≡ first_of g (count_from (i + m) n)
    counted-past i zero n h = rw (zero-add, add-zero)
    counted-past i (suc m) n h =
        rw (suc-add, counted_step, h i (omega arith) (omega arith), add-suc, ← suc-add) (counted-past (suc i) m n (λ j a b. h j (omega arith) (omega arith)))

-- the element that a first answer comes from
pub first_some : {A : Type 0} (g : A → Option Refusal) (l : List A) (r : Refusal) → first_of g l ≡ some r
    → (a : A) × Memᴰ a l × (g a ≡ some r)
unfolding first_of
first_some g [] r e = let z : ◌≡◌ {A = ℕ} 0 1 = cc in absurd (omega arith)
first_some g (a ∷ l) r e = go (λ k. first_some g l r k) (g a) refl
  where
    go : (first_of g l ≡ some r → (b : _) × Memᴰ b l × (g b ≡ some r)) → (o : Option Refusal) → g a ≡ o
        → (b : _) × Memᴰ b (a ∷ l) × (g b ≡ some r)
    go rest none k = let i = rest (rw k at e) in (i.0, Memᴰ.tail i.1, i.2)
    go rest (some q) k = let j : some q ≡ some r = rw k at e in (a, Memᴰ.head refl, k ∙ j)

-- a row refuses no point of a task where it refuses none of the points of each function
pub points_none : (t : Task) (row : ℕ → ℕ → Option Refusal)
    → (first_point t row ≡ none) ↔ ((f p : ℕ) → f < count t → p < size (func t f) → row f p ≡ none)
unfolding first_point
points_none t row = (
  λ e f p h k. (below_none (row f) (size (func t f))).0 ((below_none (λ f. first_of (row f) (up_to (size (func t f)))) (count t)).0 e f h) p k,
  λ h. (below_none (λ f. first_of (row f) (up_to (size (func t f)))) (count t)).1 (λ f k. (below_none (row f) (size (func t f))).1 (λ p j. h f p k j)),
)

-- the point that a first refusal comes from
pub points-some : (t : Task) (row : ℕ → ℕ → Option Refusal) (r : Refusal) → first_point t row ≡ some r
    → (f p : ℕ) × (f < count t) × (p < size (func t f)) × (row f p ≡ some r)
unfolding first_point
points-some t row r e =
    let i = first_some (λ f. first_of (row f) (up_to (size (func t f)))) (up_to (count t)) r e in
    let j = first_some (row i.0) (up_to (size (func t i.0))) r i.2 in
    (i.0, j.0, (mem-up_to _).0 i.1, (mem-up_to _).0 j.1, j.2)

-- a row that refuses: its test fails
pub unless-some : (b : Bool) (q r : Refusal) → unless b q ≡ some r → T (not b) × (r ≡ q)
unless-some true q r e = let z : ◌≡◌ {A = ℕ} 0 1 = cc in absurd (omega arith)
unless-some false q r e = (tt, cc)
